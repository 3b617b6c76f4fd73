-- The line feed and the carriage return that a line may end with.
use Rattle.std.proofs.Common.{◌≡◌, ◌≢◌, ℕ, ◌<◌, ⊎_elim, List, [], ◌∷◌, ◌++◌, ◌==◌, true, Option, Some, None, unwrap_or, cond, refl, sym, ◌∙◌, ap, arith}
use Rattle.std.proofs.lemmas.Bool.{cases_Bool}
use Rattle.std.proofs.lemmas.Bool.Decides.{nat_tests}
use Rattle.std.proofs.lemmas.Str.Pattern.{strip_suffix_char}
use Rattle.std.specs.Option.{MatchOption}
use Rattle.std.specs.Str.Pattern.{FindsCharSuffix, StripsSuffix}
use Rattle.shape_sessions.specs.Lines.{without_end}
use borrow.Author.Tests.{eqb-true}
use denote.Ref.{Bor}

-- a byte at the end goes
without_end-ended : (end : ℕ) (front : List ℕ) → without_end end (front ++ end ∷ []) ≡ front
without_end-ended end [] = let same : (end == end) ≡ true = grind (arith, nat_tests) in ap (λ t. cond t [] (end ∷ [])) same
without_end-ended end (b ∷ []) = ap (λ text. b ∷ text) (without_end-ended end [])
without_end-ended end (b ∷ c ∷ cs) = ap (λ text. b ∷ text) (without_end-ended end (c ∷ cs))

-- what doesn't end with it stays
without_end-other : (end : ℕ) (text : List ℕ) → ((front : List ℕ) → text ≢ front ++ end ∷ []) → without_end end text ≡ text
without_end-other end [] other = refl
without_end-other end (b ∷ []) other = ⊎_elim
    (λ same. absurd (other [] (ap (λ x. x ∷ []) (eqb-true b end same))))
    (λ unlike. ap (λ t. cond t [] (b ∷ [])) unlike)
    (cases_Bool (b == end))
without_end-other end (b ∷ c ∷ cs) other =
    ap (λ text. b ∷ text) (without_end-other end (c ∷ cs) (λ front is. other (b ∷ front) (ap (λ text. b ∷ text) is)))

-- what `strip_suffix` returns, or else the whole text
pub without_end-stripped : (end : ℕ) (text : List ℕ) (stripped : Option (Bor (List ℕ))) (whole : Bor (List ℕ))
    → MatchOption stripped (FindsCharSuffix end text None) (λ x. StripsSuffix (FindsCharSuffix end) text x.now) → end < 128
    → whole.now ≡ text → (unwrap_or stripped whole).now ≡ without_end end text
without_end-stripped end text None whole result small is =
    is ∙ sym (without_end-other end text (strip_suffix_char end text None result small))
without_end-stripped end text (Some rest) whole result small is =
    sym (ap (without_end end) (strip_suffix_char end text (Some rest) result small) ∙ without_end-ended end rest.now)
