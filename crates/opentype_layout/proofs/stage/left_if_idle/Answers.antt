use Rattle.std.proofs.Common.{◌≡◌, ◌≤◌, Bool, Some, refl, subst, arith}
use Rattle.layout_matching.specs.Work.{walk_work}
use Rattle.layout_digests.specs.declared.digested.Digested.{Digested}
use Rattle.layout_context.specs.Digested.{IsDigested, IsApart}
use Rattle.opentype_layout.specs.Digested.{IsSaid}
use Rattle.opentype_layout.specs.Lookups.{lookup_by, lookup_of}
use Rattle.opentype_layout.proofs.DigestLemmas.{substitutes-one}
use Rattle.opentype_layout.proofs.StageLemmas.{idle_skips}
use Rattle.opentype_layout.proofs.StoredLemmas.{known_head, known_said, known_some, walk_of}
use Rattle.opentype_layout.proofs.stage.left_if_idle.Goals as goal
use Rattle.opentype_layout.proofs.stage.left_if_idle.Goals.{else-work-left-via-then-work-left+else-may_share, else-work-left-via-else-work-left}

pub returns : goal.returns
returns c = λ items held many.
    let t = c.args.stage.now.tables in
    let m = c.args.map.now in
    let stored = c.args.stage.now.stored in
    let known = c.stored_at-known.result in
    let h = c.in-Some.head in
    let work = c.saturating_mul-work.result in
    let d : Digested = record {
      lookup = lookup_by t m h;
      digest = known.digest;
      firsts = record { all = stored.firsts; from = known.from; count = known.count; wholes = stored.wholes; index = m.index };
    } in
    let said : IsSaid t.positioning d = known_said t m stored known h c.stored_at-known.ensures c.requires.wholes c.in-Some.is in
    let digested : IsDigested d = substitutes-one d (subst (λ (p : Bool). IsSaid p d) c.requires.kind said) in
    let there : Some d.lookup ≡ lookup_of t m = known_some t m stored.firsts.now known h c.stored_at-known.ensures c.in-Some.is in
    let head = known_head t.table.now t.positioning m.index stored.firsts.now known h c.stored_at-known.ensures c.in-Some.is in
    let cost : work ≡ walk_work d.lookup c.args.count =
    walk_of t m h d.lookup c.args.count c.steps_work_by.result work head c.requires.kind refl c.steps_work_by.ensures c.saturating_mul-work.ensures in
    let apart : work ≤ c.args.left → IsApart c.args.run.now d = elim c.else-work-left.branch [
      | else-work-left-via-then-work-left+else-may_share w ↦ λ paid. w.may_share.ensures w.if-may_share.false
      | else-work-left-via-else-work-left w ↦ λ paid. absurd (omega (arith, paid, w.if-work-left.false))
    ] in
    idle_skips t m d c.args.run.now items c.args.count c.args.left work c.saturating_sub.result there digested held many cost apart
    c.saturating_sub.ensures
