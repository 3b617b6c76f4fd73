use Rattle.std.proofs.Common.{◌≡◌, ◌+◌, ◌-◌, ◌<◌, ◌^◌, ◌&&◌, max, nat_lt, refl, sym, ap, arith}
use Rattle.shape_font.specs.Bytes.{u16_of}
use Rattle.layout_matching.proofs.LigatureSetLemmas.{null_more, ligature_more}
use Rattle.layout_matching.proofs.ligature_sets.with_ligature.Goals as goal

pub returns-in_default-clause-has : goal.returns-in_default-clause-has
returns-in_default-clause-has c = λ has.
    null_more c.args.table.now c.args.set c.args.r c.args.before _ (sym c.in_default.ensures.value) refl refl refl refl refl has

pub returns-then-before-clause-has : goal.returns-then-before-clause-has
returns-then-before-clause-has c = λ has.
    let t = c.args.table.now in
    let many : c.u16_at-components.result ≡ u16_of t (c.in-Some.ligature + 2) = c.u16_at-components.ensures in
    let work : c.args.before.work + (c.from.result + 1) ≡ c.args.before.work + (u16_of t (c.in-Some.ligature + 2) + 1) =
    omega (arith, c.from.ensures, many) in
    let after : c.max.result ≡ max c.args.before.after (u16_of t (c.in-Some.ligature + 2) - 1) =
    omega (arith, c.max.ensures, c.from-2.ensures, c.saturating_sub.ensures, many) in
    ligature_more t c.args.set c.args.r c.in-Some.ligature c.args.before _ (sym c.in-Some.ensures.value) (omega (arith, c.requires.few))
    c.requires.tries work after refl c.with_second-next.ensures.out c.with_second-next.ensures.kept
    (rw c.if-before.true (ap (nat_lt 1) many)) has

pub returns-else-before-clause-has : goal.returns-else-before-clause-has
returns-else-before-clause-has c = λ has.
    let t = c.args.table.now in
    let many : c.u16_at-components.result ≡ u16_of t (c.in-Some.ligature + 2) = c.u16_at-components.ensures in
    let work : c.args.before.work + (c.from.result + 1) ≡ c.args.before.work + (u16_of t (c.in-Some.ligature + 2) + 1) =
    omega (arith, c.from.ensures, many) in
    let after : c.max.result ≡ max c.args.before.after (u16_of t (c.in-Some.ligature + 2) - 1) =
    omega (arith, c.max.ensures, c.from-2.ensures, c.saturating_sub.ensures, many) in
    ligature_more t c.args.set c.args.r c.in-Some.ligature c.args.before _ (sym c.in-Some.ensures.value) (omega (arith, c.requires.few))
    c.requires.tries work after refl c.with_second-next.ensures.out c.with_second-next.ensures.kept
    (rw c.if-before.false refl) has
