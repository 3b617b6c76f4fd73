use Rattle.std.proofs.Common.{◌≡◌, ◌-◌, ◌*◌, ◌+◌}
use Rattle.shape_font.specs.Bytes.{u32_of}
use Rattle.apple_substitution.specs.Chains.{flags_from}
use Rattle.apple_substitution.specs.Languages.{spoken_of}
use Rattle.apple_substitution.proofs.chains.chain_flags.Given as goal

abbrev pub invariant-loop-i : goal.invariant-loop-i
invariant-loop-i l =
    flags_from l.morx (spoken_of l.languages) l.features (l.first + 12 * l.i) (l.count - l.i) l.flags
    ≡ flags_from l.morx (spoken_of l.languages) l.features l.first l.count (u32_of l.morx l.chain)
