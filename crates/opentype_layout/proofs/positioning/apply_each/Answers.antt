use Rattle.std.proofs.Common.{Bool, fold, sym, subst}
use Rattle.layout_digests.specs.Stored.{AreStored}
use Rattle.layout_digests.specs.WholeRules.{HoldWholes}
use Rattle.layout_positions.specs.Walk.{Budgeted, budgeted, lookup_applied}
use Rattle.opentype_layout.specs.Digested.{IsSaid}
use Rattle.opentype_layout.specs.Lookups.{lookups_of}
use Rattle.opentype_layout.proofs.DigestLemmas.{positions-one}
use Rattle.opentype_layout.proofs.PositionLemmas.{idle_on, none_placed, placed_on}
use Rattle.opentype_layout.proofs.StoredLemmas.{known_none}
use Rattle.opentype_layout.proofs.positioning.apply_each.Goals as goal

pub stored_at-known-requires-clause-stored : goal.stored_at-known-requires-clause-stored
stored_at-known-requires-clause-stored c =
    subst (λ (p : Bool). AreStored c.args.tables.table.now p c.args.stored.firsts.now c.args.stored.lookups.now) (sym c.requires.kind)
    c.requires.stored

pub made_ready-named-requires-clause-wholes : goal.made_ready-named-requires-clause-wholes
made_ready-named-requires-clause-wholes c =
    subst (λ (p : Bool). HoldWholes c.args.tables.table.now p c.args.stored.wholes.now) (sym c.requires.kind) c.requires.wholes

pub apply_within-left-requires-clause-said : goal.apply_within-left-requires-clause-said
apply_within-left-requires-clause-said c =
    let named = c.made_ready-named.result in
    positions-one named (subst (λ (p : Bool). IsSaid p named) c.requires.kind c.made_ready-named.ensures.said)

pub loop-map-preserved-in_default : goal.loop-map-preserved-in_default
loop-map-preserved-in_default c =
    let here : Budgeted = record { buffer = c.loop-map.buffer; left = c.loop-map.left } in
    record {
      made = none_placed c.args.tables c.args.maps.now c.loop-map.map-index _ here
          (fold lookup_applied (budgeted c.args.buffer.now) (lookups_of c.args.tables c.args.maps.now)) c.loop-map-test.true
          (known_none c.args.tables _ c.args.stored.firsts.now c.stored_at-known.result c.stored_at-known.ensures c.in_default.is)
          c.loop-map.invariant.made;
      run = c.loop-map.invariant.run;
    }

pub loop-map-preserved-then-is_idle : goal.loop-map-preserved-then-is_idle
loop-map-preserved-then-is_idle c =
    let t = c.args.tables in
    let b = c.loop-map.buffer in
    record {
      made = idle_on t c.args.maps.now c.loop-map.map-index _ c.args.stored c.stored_at-known.result c.in-Some.head c.run_digest-run.result b
          c.loop-map.left c.saturating_sub-left.result c.len.result c.plain_walk_work.result
          (fold lookup_applied (budgeted c.args.buffer.now) (lookups_of t c.args.maps.now)) c.loop-map-test.true c.requires.kind
          c.stored_at-known.ensures (subst (λ (p : Bool). HoldWholes t.table.now p c.args.stored.wholes.now) (sym c.requires.kind) c.requires.wholes)
          c.in-Some.is c.loop-map.invariant.run (c.is_idle.ensures.apart c.if-is_idle.true) c.plain_walk_work.ensures
          c.saturating_sub-left.ensures c.len.ensures.items c.loop-map.invariant.made;
      run = c.loop-map.invariant.run;
    }

pub loop-map-preserved : goal.loop-map-preserved
loop-map-preserved c =
    let here : Budgeted = record { buffer = c.loop-map.buffer; left = c.loop-map.left } in
    let next : Budgeted = record { buffer = c.apply_within-left.new.buffer; left = c.apply_within-left.result } in
    record {
      made = placed_on c.args.tables c.args.maps.now c.loop-map.map-index _ c.made_ready-named.result.lookup here next
          (fold lookup_applied (budgeted c.args.buffer.now) (lookups_of c.args.tables c.args.maps.now)) c.loop-map-test.true
          c.made_ready-named.ensures.value c.apply_within-left.ensures.made c.loop-map.invariant.made;
      run = c.apply_within-left.ensures.run;
    }
