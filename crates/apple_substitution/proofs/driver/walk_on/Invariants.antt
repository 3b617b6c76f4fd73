use Rattle.std.proofs.Common.{◌≡◌, ◌-◌}
use Rattle.apple_substitution.specs.Drives.{drive_on, first_drive, rules_of}
use Rattle.apple_substitution.proofs.driver.walk_on.Given as goal

abbrev pub invariant-loop-i : goal.invariant-loop-i
invariant-loop-i g l = record {
  made : drive_on (rules_of l.machine) (g.S.Subtable.actions l.subtable) (l.most - l._i)
      (record { buffer = l.buffer; memory = l.remembered; walk = l.walk })
      ≡ drive_on (rules_of l.machine) (g.S.Subtable.actions l.subtable) l.most (first_drive l.fn.memory l.fn.buffer);
}
