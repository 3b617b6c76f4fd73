use Rattle.std.proofs.Common.{◌≡◌, ◌+◌, ◌++◌, ◌∷◌, [], length, ap, sym, subst, ◌∙◌, arith}
use Rattle.std.proofs.lemmas.List.{length-append}
use Rattle.std.specs.Option.{option_map}
use Rattle.layout_tables.specs.Lookups.{lookup_of}
use Rattle.layout_digests.specs.Lookups.{IsDigestAt}
use Rattle.layout_digests.specs.declared.stored.Head.{Head}
use Rattle.layout_digests.specs.Stored.{HoldsFirstsAt, AreStored, AreInside}
use Rattle.layout_digests.specs.declared.stored.StoredLookup.{StoredLookup}
use Rattle.layout_digests.proofs.StoredLemmas.{one_stored, all_inside}
use Rattle.layout_digests.proofs.stored.stored.Goals as goal

pub loop-index-preserved : goal.loop-index-preserved
loop-index-preserved c =
    let t = c.args.lookups.table.now in
    let positioning = c.args.lookups.positioning in
    let before = c.loop-index.firsts.items in
    let firsts = c.push_index.new.firsts.items in
    let ss = c.loop-index.all.items in
    let span = c.in_ok-span.span in
    let s : StoredLookup = record { head = c.head_of.result; digest = c.digest_of-reading.result.digest; from = span.from; count = span.count } in
    let made : c.push.new.self.items ≡ ss ++ s ∷ [] = c.in_ok-push.ensures.items in
    let so_far : length ss ≡ c.loop-index.index = c.loop-index.invariant.so_far in
    let many : length (ss ++ s ∷ []) ≡ length ss + 1 = length-append ss (s ∷ []) in
    let longer : length (ss ++ s ∷ []) ≡ c.loop-index.index + 1 = omega (arith, many, so_far) in
    let same : c.loop-index.index ≡ length ss = sym so_far in
    let digest : IsDigestAt t positioning (length ss) s.digest =
    subst (λ k. IsDigestAt t positioning k s.digest) same c.digest_of-reading.ensures in
    let held : HoldsFirstsAt t positioning (length ss) firsts s.from s.count =
    subst (λ k. HoldsFirstsAt t positioning k firsts s.from s.count) same c.in_ok-span.ensures.held in
    let place : option_map (λ (h : Head). h.place) s.head ≡ lookup_of t (length ss) =
    subst (λ k. option_map (λ (h : Head). h.place) s.head ≡ lookup_of t k) same c.head_of.ensures.place in
    record {
      so_far = ap length made ∙ longer;
      ok = subst (AreStored t positioning firsts) (sym made)
          (one_stored t positioning before firsts ss s c.loop-index.invariant.ok c.loop-index.invariant.inside c.in_ok-span.ensures.kept digest held
          place c.head_of.ensures.head);
      inside = subst (AreInside firsts) (sym made)
          (all_inside before firsts ss s c.loop-index.invariant.inside c.in_ok-span.ensures.kept c.in_ok-span.ensures.inside);
    }
