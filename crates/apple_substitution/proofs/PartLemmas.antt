-- Parts that run one after the other, one by one.
use Prim.Native.Nat.{zero}
use Rattle.std.proofs.Common.{◌≡◌, ℕ, suc, ◌+◌, ◌-◌, ◌<◌, ◌≤◌, Bool, true, false, ◌||◌, not, List, [], ◌∷◌}
use Rattle.std.proofs.Common.{refl, sym, ap, ◌∙◌, arith, if◌then◌else◌}
use Rattle.shape_items.specs.Buffer.{Buffer}
use Rattle.apple_substitution.specs.Edits.{charged, is_past}
use Rattle.apple_substitution.specs.Parts.{all_run, is_end, is_part, is_spent, places_from, size_of}
use Rattle.apple_substitution.specs.declared.parts.Header.{Header}

-- n parts from a place on
abbrev pub run_from : (ℕ → ℕ) → (ℕ → Buffer → Buffer) → List ℕ → Header → ℕ → ℕ → Buffer → Buffer
run_from work run t header n at b = all_run work run (places_from t header n at) b

by_spent : (work : ℕ → ℕ) (run : ℕ → Buffer → Buffer) (t : List ℕ) (header : Header) (n at : ℕ) (b : Buffer) (p : Bool)
    → (not p || is_spent (work at) b) ≡ true
    → all_run work run (if p then at ∷ places_from t header n (at + size_of t header at) else []) b ≡ b
by_spent work run t header n at b true is = rw is refl
by_spent work run t header n at b false is = refl

-- where a walk ends, nothing runs any more
none_run : (work : ℕ → ℕ) (run : ℕ → Buffer → Buffer) (t : List ℕ) (header : Header) (n at : ℕ) (b : Buffer)
    → is_end t header at (work at) b ≡ true → run_from work run t header n at b ≡ b
none_run work run t header zero at b is = refl
none_run work run t header (suc n) at b is = by_spent work run t header n at b (is_part t header at) is

pub ended : (work : ℕ → ℕ) (run : ℕ → Buffer → Buffer) (t : List ℕ) (header : Header) (n at w : ℕ) (b end : Buffer)
    → run_from work run t header n at b ≡ end → w ≡ work at → is_end t header at w b ≡ true → b ≡ end
ended work run t header n at w b end made cost is =
    sym (none_run work run t header n at b (ap (λ k. is_end t header at k b) (sym cost) ∙ is)) ∙ made

pub all_made : (work : ℕ → ℕ) (run : ℕ → Buffer → Buffer) (t : List ℕ) (header : Header) (n i at : ℕ) (b end : Buffer)
    → run_from work run t header (n - i) at b ≡ end → n ≤ i → b ≡ end
all_made work run t header n i at b end made over =
    let none : n - i ≡ 0 = omega (arith, over) in
    sym (ap (λ k. run_from work run t header k at b) none) ∙ made

-- elsewhere a part runs, and then those after it
first_run : (work : ℕ → ℕ) (run : ℕ → Buffer → Buffer) (t : List ℕ) (header : Header) (n at : ℕ) (b : Buffer) (p s : Bool)
    → is_part t header at ≡ p → is_spent (work at) b ≡ s → (not p || s) ≡ false
    → run_from work run t header (suc n) at b
    ≡ run_from work run t header n (at + size_of t header at) (run at (charged (work at) b))
first_run work run t header n at b true false part left is = rw (part, left) refl
first_run work run t header n at b true true part left is = cc
first_run work run t header n at b false s part left is = cc

pub next_run : (work : ℕ → ℕ) (run : ℕ → Buffer → Buffer) (t : List ℕ) (header : Header) (n i at w size : ℕ) (b paid there end : Buffer)
    → i < n → run_from work run t header (n - i) at b ≡ end → w ≡ work at → is_end t header at w b ≡ false
    → paid ≡ charged w b → there ≡ run at paid → size ≡ size_of t header at
    → run_from work run t header (n - (i + 1)) (at + size) there ≡ end
next_run work run t header n i at w size b paid there end more made cost goes_on pays is sized =
    let e : n - i ≡ suc (n - (i + 1)) = omega (arith, more) in
    let there_is : there ≡ run at (charged (work at) b) = is ∙ ap (run at) (pays ∙ ap (λ k. charged k b) cost) in
    let not_end : is_end t header at (work at) b ≡ false = ap (λ k. is_end t header at k b) (sym cost) ∙ goes_on in
    ap (λ k. run_from work run t header (n - (i + 1)) (at + k) there) sized
    ∙ ap (run_from work run t header (n - (i + 1)) (at + size_of t header at)) there_is
    ∙ sym (first_run work run t header (n - (i + 1)) at b (is_part t header at) (is_spent (work at) b) refl refl not_end)
    ∙ sym (ap (λ k. run_from work run t header k at b) e) ∙ made

-- a list past its limit stays so to the end
past_run : (work : ℕ → ℕ) (run : ℕ → Buffer → Buffer) (places : List ℕ) (b : Buffer) → is_past b ≡ true
    → all_run work run places b ≡ b
past_run work run [] b is = refl
past_run work run (at ∷ places) b is = rw is refl

pub all_past : (work : ℕ → ℕ) (run : ℕ → Buffer → Buffer) (t : List ℕ) (header : Header) (n i at w : ℕ) (b paid end : Buffer) → i < n
    → run_from work run t header (n - i) at b ≡ end → w ≡ work at → is_end t header at w b ≡ false
    → paid ≡ charged w b → is_past (run at paid) ≡ true → is_past end ≡ true
all_past work run t header n i at w b paid end more made cost goes_on pays is =
    let places : List ℕ = places_from t header (n - (i + 1)) (at + size_of t header at) in
    ap is_past (sym (next_run work run t header n i at w (size_of t header at) b paid (run at paid) end more made cost goes_on pays refl refl)
    ∙ past_run work run places (run at paid) is) ∙ is
