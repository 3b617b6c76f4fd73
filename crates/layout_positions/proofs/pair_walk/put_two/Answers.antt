use Rattle.std.proofs.Common.{Option, Some, subst}
use Rattle.layout_positions.specs.Paired.{HasFor, found_in, plain_found}
use Rattle.layout_positions.specs.declared.paired.FoundPair.{FoundPair}
use Rattle.layout_positions.specs.declared.paired.PairFound.{PairFound}
use Rattle.layout_positions.proofs.PairedLemmas.{found_made}
use Rattle.layout_positions.proofs.pair_walk.put_two.Goals as goal

pub keep-requires-clause-new : goal.keep-requires-clause-new
keep-requires-clause-new c =
    let l = c.args.indexed.now.lookup.now in
    subst (λ (f : PairFound). HasFor l c.args.two.left c.args.two.right (found_in f)) c.in-Plain.is c.in_ok-plain.ensures

pub returns-in-Plain-clause-made : goal.returns-in-Plain-clause-made
returns-in-Plain-clause-made c =
    let l = c.args.indexed.now.lookup.now in
    let two = c.args.two in
    let plain : Option FoundPair = plain_found c.in-Plain.plain in
    let has : HasFor l two.left two.right plain =
    subst (λ (f : PairFound). HasFor l two.left two.right (found_in f)) c.in-Plain.is c.in_ok-plain.ensures in
    found_made l two.left two.right plain c.args.buffer.now c.args.i two.second c.put_plain-in-Plain.new.buffer
    c.put_plain-in-Plain.result has c.requires.beside c.put_plain-in-Plain.ensures.made c.put_plain-in-Plain.ensures.next

pub returns-in-Other-clause-made : goal.returns-in-Other-clause-made
returns-in-Other-clause-made c =
    let l = c.args.indexed.now.lookup.now in
    let two = c.args.two in
    let pair : Option FoundPair = Some c.in-Other.pair in
    let has : HasFor l two.left two.right pair =
    subst (λ (f : PairFound). HasFor l two.left two.right (found_in f)) c.in-Other.is c.in_ok-plain.ensures in
    found_made l two.left two.right pair c.args.buffer.now c.args.i two.second c.put_pair.new.buffer c.put_pair.result has
    c.requires.beside c.put_pair.ensures.made c.put_pair.ensures.next
