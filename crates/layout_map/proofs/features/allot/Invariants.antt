use Rattle.std.proofs.Common.{◌≡◌, ◌<◌, drop, fold}
use Rattle.layout_map.specs.Features.{Allotment, with_setting, allotted}
use Rattle.layout_map.proofs.features.allot.Given as goal

abbrev pub invariant-loop-setting : goal.invariant-loop-setting
invariant-loop-setting l =
    let here : Allotment = record {
      features = l.features.items;
      place = l.room.place;
      global = l.room.global;
      required_stage = l.room.required_stage;
    } in
    record {
      made : fold (with_setting l.gsub l.gpos) here (drop l.setting-index l.settings) ≡ allotted l.gsub l.gpos l.settings;
      near : l.room.place < 27;
    }
