-- Which numbers are sets of the flags that there are.
use Rattle.std.proofs.Common.{◌≡◌, ℕ, List, [], ◌∷◌, Option, Some, None, codes, refl, subst, ap, sym, ◌∙◌}
use Rattle.std.specs.Option.{SomeIff, IsSome, IfSome}
use Rattle.std.specs.Prelude.{◌↔◌}
use Rattle.std.specs.Int.RustNames.{bit_and}
use Rattle.bitflags.specs.Sets.{Row, known_bits}
use Rattle.bitflags.proofs.OnLiterals.{bitflags_on_literals}
use Rattle.shape_common.specs.declared.flags.BufferFlags.{BufferFlags}
use Rattle.shape_sessions.specs.Settings.{ALL_FLAGS}

-- the flags that there are
abbrev pub flag_rows : List Row
flag_rows = (codes "BEGINNING_OF_TEXT", 2) ∷ (codes "END_OF_TEXT", 4) ∷ (codes "PRESERVE_DEFAULT_IGNORABLES", 8)
    ∷ (codes "REMOVE_DEFAULT_IGNORABLES", 16) ∷ (codes "DO_NOT_INSERT_DOTTED_CIRCLE", 32)
    ∷ (codes "PRODUCE_UNSAFE_TO_CONCAT", 64) ∷ (codes "PRODUCE_SAFE_TO_INSERT_TATWEEL", 128) ∷ []

all_bits : known_bits flag_rows ≡ ALL_FLAGS
unfolding bitflags_on_literals
all_bits = refl

-- what `from_bits` returns for the number that was read
pub flags_read : {Good : Type 0} (flags : Option BufferFlags) (bits number : ℕ) → Good → bits ≡ number → IfSome flags (λ f. f.0 ≡ bits)
    → IsSome flags ↔ (bit_and bits (known_bits flag_rows) ≡ bits)
    → SomeIff flags (Good × (bit_and number ALL_FLAGS ≡ number)) (record { 0 = number })
flags_read None bits number good same value test = λ both.
    let at : bit_and bits (known_bits flag_rows)
    ≡ bits = subst (λ n. bit_and n (known_bits flag_rows) ≡ n) (sym same) (ap (bit_and number) all_bits ∙ both.1) in
    let found : IsSome {T = BufferFlags} None = test.1 at in
    absurd cc
flags_read (Some f) bits number good same value test =
    let at : bit_and bits (known_bits flag_rows) ≡ bits = test.0 refl in
    ((good, subst (λ n. bit_and n ALL_FLAGS ≡ n) same (sym (ap (bit_and bits) all_bits) ∙ at)), ap (λ n. record { 0 = n }) (value ∙ same))
