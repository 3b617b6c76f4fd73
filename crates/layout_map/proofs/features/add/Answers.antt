use Rattle.std.proofs.Common.{◌≡◌, false, sym}
use Rattle.layout_map.specs.Features.{Allotment}
use Rattle.layout_map.proofs.features.add.Goals as goal

pub returns-then-not-may_matter-clause-ok : goal.returns-then-not-may_matter-clause-ok
returns-then-not-may_matter-clause-ok c =
    let so_far : Allotment = record {
      features = c.args.features.now.items;
      place = c.args.room.place;
      global = c.args.room.global;
      required_stage = c.args.room.required_stage;
    } in
    let passed : c.may_matter.result ≡ false = cc in
    sym (c.may_matter.ensures passed so_far)
