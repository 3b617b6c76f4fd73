use Rattle.std.proofs.Common.{◌≡◌, map, take, string_bytes}
use Rattle.shape_text_forms.specs.Names.{spelled}
use Rattle.shape_text_forms.proofs.names.respelled.Given as goal

-- what is spelled so far
abbrev pub invariant-loop-byte : goal.invariant-loop-byte
invariant-loop-byte l = string_bytes l.name ≡ map spelled (take l.byte-index l.bytes)
