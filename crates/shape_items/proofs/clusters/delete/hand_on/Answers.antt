use Rattle.std.proofs.Common.{◌≡◌, ◌+◌, ◌-◌, ◌<◌, ◌++◌, [], true, false, length, take, drop, arith, ap, sym, ◌∙◌}
use Rattle.std.proofs.lemmas.List.{take_all, take_at, drop_at, drop_all, append-nil, length-take-le, length-drop}
use Rattle.std.proofs.lemmas.Slice.{drop-append-drop}
use borrow.Rule.Slice.PartMut.{put_mid}
use Rattle.shape_items.specs.Delete.{begins_in, give_to_kept}
use Rattle.shape_items.specs.Unwritten.{StandsFor}
use Rattle.shape_items.specs.BufferClusters.{merge_clusters}
use Rattle.shape_items.proofs.Deletion.DeleteLemmas.{give-append, hand_on-first, hand_on-second, hand_on-third, hand_on-fourth}
use Rattle.shape_items.proofs.Unwritten.UnwrittenLemmas.{StandsFor-empty}
use Rattle.shape_items.proofs.Unwritten.GivenLemmas.{length-given}
use Rattle.shape_items.proofs.clusters.delete.hand_on.Goals as goal

pub returns-then-begins_in-clause-handed : goal.returns-then-begins_in-clause-handed
returns-then-begins_in-clause-handed c = λ given s.
    let rest = drop (c.args.spot.at + 1) c.args.infos.now in
    let same : take (length c.args.infos.now - (c.args.spot.at + 1)) rest ≡ rest = take_all _ rest (rw length-drop (omega arith)) in
    let begins : begins_in c.args.picked.now.cluster rest ≡ true = ap (begins_in c.args.picked.now.cluster) (sym same)
    ∙ sym c.begins_in.ensures ∙ c.if-begins_in.true in (
      given,
      rw (take_all (length c.args.starts.now) c.args.starts.now (omega arith)) s,
      λ b level. sym
          (hand_on-first c.args.spot.kept c.args.picked.now rest _ begins),
    )

pub returns-then-kept-gt0-clause-handed : goal.returns-then-kept-gt0-clause-handed
returns-then-kept-gt0-clause-handed c = λ given s.
    let xs = c.args.infos.now in
    let k = c.args.spot.kept in
    let rest = drop (c.args.spot.at + 1) xs in
    let same : take (length xs - (c.args.spot.at + 1)) rest ≡ rest = take_all _ rest (rw length-drop (omega arith)) in
    let begins : begins_in c.args.picked.now.cluster rest ≡ false = ap (begins_in c.args.picked.now.cluster) (sym same)
    ∙ sym c.begins_in.ensures ∙ c.if-begins_in.false in
    let size : length (take k xs) ≡ k = length-take-le k xs (omega arith) in
    let new_size : length c.give_to_last.new.infos ≡ k = c.give_to_last.ensures.as_many ∙ size in
    let given_size : k ≡ length given = sym (length-given _ _ given s ∙ size) in
    let stands : StandsFor c.give_to_last.new.infos (take c.give_to_last.result c.args.starts.now)
    (give_to_kept k c.args.picked.now given) =
    rw (← size) (c.give_to_last.ensures.stands given s) in
    let head : take k (c.give_to_last.new.infos ++ drop k xs) ≡ c.give_to_last.new.infos = take_at _ (drop k xs) k new_size in
    let tail : drop c.args.spot.at (c.give_to_last.new.infos ++ drop k xs)
    ≡ drop c.args.spot.at xs = drop-append-drop k xs _ c.args.spot.at (omega arith) new_size in (
      give_to_kept k c.args.picked.now given,
      rw head stands,
      λ b level. ap (λ z. record b { items = give_to_kept k c.args.picked.now given ++ z; scratch_flags = c.args.scratch_flags.now }) tail
          ∙ ap (λ z. record b { items = z; scratch_flags = c.args.scratch_flags.now })
          (sym (give-append k c.args.picked.now given (drop c.args.spot.at xs) c.if-kept-gt0.true given_size))
          ∙ sym (hand_on-second k c.args.picked.now rest
          (record b { items = given ++ drop c.args.spot.at xs; scratch_flags = c.args.scratch_flags.now }) begins c.if-kept-gt0.true),
    )

pub returns-then-i-infos-clause-handed : goal.returns-then-i-infos-clause-handed
returns-then-i-infos-clause-handed c = λ given s.
    let xs = c.args.infos.now in
    let i = c.args.spot.at in
    let rest = drop (i + 1) xs in
    let same : take (length xs - (i + 1)) rest ≡ rest = take_all _ rest (rw length-drop (omega arith)) in
    let begins : begins_in c.args.picked.now.cluster rest ≡ false = ap (begins_in c.args.picked.now.cluster) (sym same)
    ∙ sym c.begins_in.ensures ∙ c.if-begins_in.false in
    let none : c.args.spot.kept ≡ 0 = omega arith in
    let size : length (take c.args.spot.kept xs) ≡ 0 = length-take-le c.args.spot.kept xs (omega arith) ∙ none in
    let empty : given ≡ [] = StandsFor-empty _ _ given s size in
    let some : 0 < length rest = rw length-drop (omega (arith, c.if-i-infos.true)) in
    let part : take (length xs - i) (drop i xs) ≡ drop i xs = take_all _ (drop i xs) (rw length-drop (omega arith)) in
    let ys = c.merge_first_two.new.infos in
    let front : length (take i xs) ≡ i = length-take-le i xs (omega arith) in
    let end : drop (length xs - i) (drop i xs) ≡ [] = drop_all _ (drop i xs) (rw length-drop (omega arith)) in
    let tail : drop i (put_mid i (length xs - i) xs ys) ≡ ys =
    drop_at (take i xs) (ys ++ drop (length xs - i) (drop i xs)) i front ∙ ap (λ z. ys ++ z) end ∙ append-nil ys in
    let head : take c.args.spot.kept (put_mid i (length xs - i) xs ys) ≡ take c.args.spot.kept xs =
    ap (λ k. take k (put_mid i (length xs - i) xs ys)) none ∙ sym (ap (λ k. take k xs) none) in (
      given,
      rw (head, take_all (length c.args.starts.now) c.args.starts.now (omega arith)) s,
      λ b level. ap (λ z. record b { items = given ++ z; scratch_flags = c.merge_first_two.new.scratch_flags }) tail
          ∙ ap (λ z. record b { items = z ++ ys; scratch_flags = c.merge_first_two.new.scratch_flags }) empty
          ∙ c.merge_first_two.ensures b level
          ∙ ap (λ z. merge_clusters 0 2 (record b { items = z; scratch_flags = c.args.scratch_flags.now })) part
          ∙ ap (λ z. merge_clusters 0 2 (record b { items = z ++ drop i xs; scratch_flags = c.args.scratch_flags.now })) (sym empty)
          ∙ sym (hand_on-third c.args.spot.kept c.args.picked.now rest
          (record b { items = given ++ drop i xs; scratch_flags = c.args.scratch_flags.now }) begins none some),
    )

pub returns-else-i-infos-clause-handed : goal.returns-else-i-infos-clause-handed
returns-else-i-infos-clause-handed c = λ given s.
    let xs = c.args.infos.now in
    let rest = drop (c.args.spot.at + 1) xs in
    let same : take (length xs - (c.args.spot.at + 1)) rest ≡ rest = take_all _ rest (rw length-drop (omega arith)) in
    let begins : begins_in c.args.picked.now.cluster rest ≡ false = ap (begins_in c.args.picked.now.cluster) (sym same)
    ∙ sym c.begins_in.ensures ∙ c.if-begins_in.false in
    let none : c.args.spot.kept ≡ 0 = omega arith in
    let last : length rest ≡ 0 = rw length-drop (omega arith) in (
      given,
      rw (take_all (length c.args.starts.now) c.args.starts.now (omega arith)) s,
      λ b level. sym (hand_on-fourth c.args.spot.kept c.args.picked.now rest
          (record b { items = given ++ drop c.args.spot.at xs; scratch_flags = c.args.scratch_flags.now }) begins none last),
    )
