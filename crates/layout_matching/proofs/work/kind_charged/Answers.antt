use Rattle.std.proofs.Common.{ℕ, Option, sym, ap, ◌∙◌}
use Rattle.layout_tables.specs.declared.lookups.LookupSubtable.{LookupSubtable}
use Rattle.layout_matching.specs.Work.{subtable_charged}
use Rattle.layout_matching.proofs.work.kind_charged.Goals as goal

pub returns-then-subtable-eq4 : goal.returns-then-subtable-eq4
returns-then-subtable-eq4 c =
    let of_kind : ℕ → LookupSubtable = λ k. record { kind = k; start = c.args.subtable.start } in
    let made : LookupSubtable → Option ℕ = subtable_charged c.args.lookup.now c.args.items.now c.args.at c.args.left in
    c.ligatures_charged.ensures ∙ ap (λ k. made (of_kind k)) (sym c.if-subtable-eq4.true)
