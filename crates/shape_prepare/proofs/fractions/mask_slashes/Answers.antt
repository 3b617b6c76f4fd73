use Rattle.std.proofs.Common.{◌≡◌, ◌+◌, true, false, nat_lt, List, ◌∷◌, length, get_or, drop, ap, sym, ◌∙◌, arith}
use Rattle.std.proofs.lemmas.Bool.Decides.{nat_tests}
use Rattle.std.proofs.lemmas.List.{drop_more}
use Rattle.shape_items.specs.Buffer.{Buffer}
use Rattle.shape_items.specs.Items.{Item}
use Rattle.shape_prepare.specs.Fractions.{is_slash, slash_places, slashes_masked}
use Rattle.shape_plan.proofs.MaskLemmas.{MasksAlone-then}
use Rattle.shape_prepare.proofs.Masking.MaskLemmas.{alone-slash_masked, same_slash}
use Rattle.shape_prepare.proofs.Masking.SlashLemmas.{slashes-reached, slashes-skipped, slashes-other}
use Rattle.shape_prepare.proofs.fractions.mask_slashes.Goals as goal
use Rattle.shape_prepare.proofs.fractions.mask_slashes.Goals.{then-is_slash+then-next-i, else-is_slash, else-is_slash-via-then-is_slash+else-next-i, else-is_slash-via-else-is_slash}

pub loop-i-preserved : goal.loop-i-preserved
loop-i-preserved c =
    let i = c.loop-i.i in
    let masks = c.args.masks in
    let b = c.loop-i.buffer in
    let next = c.loop-i.next in
    let items = c.args.buffer.now.items in
    let item = get_or items i c.index-infos-i.result in
    let rest = drop (i + 1) items in
    let as_many = c.loop-i.invariant.same_length in
    let here : drop i items ≡ item ∷ rest = drop_more items i c.index-infos-i.result (omega arith) in
    let walk = ap (λ (xs : List Item). slashes_masked masks next (slash_places i xs) b) (sym here) ∙ c.loop-i.invariant.walk in
    let like : is_slash item ≡ c.is_slash.result =
    sym (same_slash c.loop-i.invariant.alone i c.index-infos-i.result)
    ∙ sym (ap is_slash (c.index-infos-i.is ∙ ap (λ (xs : List Item). get_or xs i c.index-infos-i.result) c.infos.ensures))
    ∙ sym c.is_slash.ensures in
    elim c.if-is_slash.branch [
      | then-is_slash+then-next-i w ↦
          let slash : is_slash item ≡ true = like ∙ w.if-is_slash.true in
          let reached : nat_lt i next ≡ false = grind (arith, nat_tests) in
          let made = w.buffer-is ∙ w.mask_slash-next.ensures.masked.made in
          record {
            same_length = ap (λ (x : Buffer). length x.items) w.buffer-is ∙ w.mask_slash-next.ensures.as_long ∙ as_many;
            alone = rw made (MasksAlone-then c.loop-i.invariant.alone (alone-slash_masked masks i b));
            walk = rw (w.next-is ∙ w.mask_slash-next.ensures.next, made) (slashes-reached masks next i item rest b slash reached ∙ walk);
          }
      | else-is_slash w ↦ rw (w.buffer-is, w.next-is) (elim w.else-is_slash.branch [
        | else-is_slash-via-then-is_slash+else-next-i v ↦
            let slash : is_slash item ≡ true = like ∙ v.if-is_slash.true in
            let passed : nat_lt i next ≡ true = grind (arith, nat_tests) in
            record {
              same_length = as_many;
              alone = c.loop-i.invariant.alone;
              walk = slashes-skipped masks next i item rest b slash passed
                  ∙ walk;
            }
        | else-is_slash-via-else-is_slash v ↦
            let other : is_slash item ≡ false = like ∙ v.if-is_slash.false in
            record { same_length = as_many; alone = c.loop-i.invariant.alone; walk = slashes-other masks next i item rest b other ∙ walk }
      ])
    ]
