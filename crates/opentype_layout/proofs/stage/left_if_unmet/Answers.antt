use Rattle.std.proofs.Common.{◌≡◌, Bool, length, subst}
use Rattle.layout_matching.specs.Work.{walk_work}
use Rattle.layout_context.specs.Digested.{IsDigested}
use Rattle.opentype_layout.specs.Digested.{IsSaid}
use Rattle.opentype_layout.proofs.DigestLemmas.{substitutes-one}
use Rattle.opentype_layout.proofs.StageLemmas.{unmet_skips}
use Rattle.opentype_layout.proofs.StoredLemmas.{known_head, walk_of}
use Rattle.opentype_layout.proofs.stage.left_if_unmet.Goals as goal

pub is_unmet-requires : goal.is_unmet-requires
is_unmet-requires c =
    let named = c.made_ready-named.result in
    substitutes-one named (subst (λ (p : Bool). IsSaid p named) c.requires.kind c.made_ready-named.ensures.said)

pub returns-then-is_unmet : goal.returns-then-is_unmet
returns-then-is_unmet c =
    let t = c.args.stage.now.tables in
    let m = c.args.map.now in
    let known = c.stored_at-known.result in
    let h = c.in-Some.head in
    let named = c.made_ready-named.result in
    let infos = c.args.infos.now in
    let head = known_head t.table.now t.positioning m.index c.args.stage.now.stored.firsts.now known h c.stored_at-known.ensures c.in-Some.is in
    let said : IsDigested named = substitutes-one named (subst (λ (p : Bool). IsSaid p named) c.requires.kind c.made_ready-named.ensures.said) in
    let cost : c.saturating_mul-work.result ≡ walk_work named.lookup (length infos) =
    walk_of t m h named.lookup (length infos) c.steps_work_by.result c.saturating_mul-work.result head c.requires.kind
    c.made_ready-named.ensures.by c.steps_work_by.ensures c.saturating_mul-work.ensures in
    unmet_skips t m named infos c.args.left c.saturating_mul-work.result c.saturating_sub.result c.made_ready-named.ensures.value said cost
    (c.is_unmet.ensures.forwards c.if-is_unmet.true) (c.is_unmet.ensures.none c.if-is_unmet.true) c.saturating_sub.ensures
