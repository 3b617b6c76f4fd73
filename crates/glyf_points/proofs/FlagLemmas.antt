-- what one step over flags does
use Rattle.std.proofs.Common.{◌≡◌, ℕ, suc, ◌<◌, ◌+◌, ◌-◌, List, [], ◌∷◌, ◌++◌, Option, Some, None, refl, ap, append_assoc, arith}
use Rattle.std.proofs.lemmas.List.{append-nil}
use Rattle.std.specs.Option.{option_map}
use Rattle.glyf_points.specs.Flags.{Read, read, with_flag, flags_of, flag_after}
use Rattle.glyf_points.specs.declared.flags.Flag.{Flag}

-- flags before those that are read
abbrev pub after : List ℕ → Read → Read
after before r = record r { flags = before ++ r.flags }

pub flags_begun : (found : Option Read) → option_map (after []) found ≡ found
flags_begun None = refl
flags_begun (Some r) = refl

pub flags_step : (t before : List ℕ) (n i : ℕ) (last f : Flag) → i < n → flag_after t last ≡ Some f
    → option_map (after before) (flags_of t (n - i) last) ≡ option_map (after (before ++ f.flag ∷ [])) (flags_of t (n - (i + 1)) f)
flags_step t before n i last f h is =
    let e : n - i ≡ suc (n - (i + 1)) = omega arith in
    rw e (rw (is, flags_of) (moved (flags_of t (n - (i + 1)) f)))
  where
    moved : (found : Option Read)
        → option_map (after before) (option_map (with_flag f.flag) found) ≡ option_map (after (before ++ f.flag ∷ [])) found
    moved None = refl
    moved (Some r) = ap (λ flags. Some (read flags r.end)) (rw append_assoc refl)

pub flags_cut : (t before : List ℕ) (n i : ℕ) (last : Flag) → i < n → flag_after t last ≡ None
    → option_map (after before) (flags_of t (n - i) last) ≡ None
flags_cut t before n i last h is =
    let e : n - i ≡ suc (n - (i + 1)) = omega arith in
    rw e (rw (is, flags_of) refl)

pub flags_end : (t before : List ℕ) (n : ℕ) (last : Flag)
    → option_map (after before) (flags_of t (n - n) last) ≡ Some (read before last.next)
flags_end t before n last =
    let e : n - n ≡ 0 = omega arith in
    rw e (rw append-nil refl)
