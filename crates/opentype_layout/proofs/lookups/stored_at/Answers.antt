use Rattle.std.proofs.Common.{subst, slice_index_or}
use Rattle.layout_digests.specs.Stored.{IsStoredAt, no_lookup}
use Rattle.opentype_layout.proofs.lookups.stored_at.Goals as goal

pub returns-then-i-stored : goal.returns-then-i-stored
returns-then-i-stored c =
    let t = c.args.tables in
    let s = slice_index_or c.args.stored.lookups.now c.from-i.result no_lookup in
    subst (λ k. IsStoredAt t.table.now t.positioning k c.args.stored.firsts.now s) c.from-i.ensures (c.requires.stored c.from-i.result c.if-i-stored.true)
