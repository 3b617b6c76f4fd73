-- The table morx over a text (TrueType Reference Manual, "The 'morx' table"): its chains one after the other.
use Rattle.std.specs.Prelude.{ℕ, List, Bool, length, not, nat_eq, if◌then◌else◌}
use Rattle.shape_font.specs.Bytes.{u16_of, u32_of}
use Rattle.shape_items.specs.Buffer.{Buffer}
use Rattle.shape_items.specs.BufferClusters.{unsafe_to_concat}
use Rattle.apple_substitution.specs.ChainRuns.{Source, chain_run, chain_work}
use Rattle.apple_substitution.specs.Parts.{all_run, places_from}
use Rattle.apple_substitution.specs.declared.parts.TheConstants.{CHAIN}

-- the table begins with its version, of which 0 is none
abbrev pub is_present : List ℕ → Bool
is_present t = not (nat_eq (u16_of t 0) 0)

-- n chains, after eight bytes
abbrev pub chains_run : Source → ℕ → Buffer → Buffer
chains_run s n b = all_run (chain_work s) (chain_run s) (places_from s.morx CHAIN n 8) b

-- the table says how many chains there are. All of the text is unsafe to concatenate
unfoldable pub metamorphosed : Source → Buffer → Buffer
metamorphosed s b = if is_present s.morx then chains_run s (u32_of s.morx 4) (unsafe_to_concat 0 (length b.items) b) else b
