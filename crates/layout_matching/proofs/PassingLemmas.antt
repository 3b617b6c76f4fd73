-- steps one after the other, of which those after the last stop change nothing
use Prim.Native.Nat.{zero}
use Rattle.std.proofs.Common.{◌≡◌, ℕ, suc, ◌+◌, ◌-◌, ◌*◌, ◌<◌, ◌≤◌, Bool, true, false, List, Some, None, min, nat_eq, nat_lt, refl, ap, ◌∙◌, arith, if◌then◌else◌}
use Rattle.std.proofs.lemmas.Bool.Decides.{nat_tests}
use Rattle.shape_items.specs.Buffer.{most_countable}
use Rattle.shape_items.specs.Items.{Item}
use Rattle.layout_matching.specs.Loops.{along}
use Rattle.layout_matching.specs.Skipping.{nth}
use Rattle.layout_matching.specs.Work.{charged, passed, passed_charged, passing_step}
use Rattle.layout_matching.specs.declared.lookup.Lookup.{Lookup}
use Rattle.layout_matching.specs.declared.passing.Passing.{Passing}
use Rattle.layout_matching.specs.declared.tally.Tally.{Tally}

pub along_next : {S : Type 0} (f : ℕ → S → S) (n k : ℕ) (s : S) → k < n
    → along f (n - k) k s ≡ along f (n - (k + 1)) (k + 1) (f k s)
along_next f n k s more =
    let e : n - k ≡ suc (n - (k + 1)) = omega (arith, more) in
    let s' : suc k ≡ k + 1 = omega arith in
    ap (λ m. along f m k s) e ∙ ap (λ i. along f (n - (k + 1)) i (f k s)) s'

pub along_end : {S : Type 0} (f : ℕ → S → S) (n k : ℕ) (s : S) → n ≤ k → along f (n - k) k s ≡ s
along_end f n k s over =
    let e : n - k ≡ 0 = omega (arith, over) in
    rw e refl

along-stays : (l : Lookup) (listed : Bool) (there : ℕ → Item) (n k : ℕ) (s : Passing) → s.stops ≡ 0
    → along (λ j. passing_step l listed (there j)) n k s ≡ s
along-stays l listed there zero k s none = refl
along-stays l listed there (suc n) k s none =
    ap (along (λ j. passing_step l listed (there j)) n (suc k)) (step (nat_eq s.stops 0) _ (grind (arith, nat_tests, none)))
    ∙ along-stays l listed there n (suc k) s none
  where
    step : (t : Bool) (x : Passing) → t ≡ true → (if t then s else x) ≡ s
    step true x is = refl
    step false x is = cc

pub after_stops : (l : Lookup) (listed : Bool) (items : List Item) (n k : ℕ) (s : Passing) → s.stops ≡ 0
    → along (λ j. passing_step l listed (nth items j)) n k s ≡ s
after_stops l listed items = along-stays l listed (λ j. nth items j)

pub before_stops : (l : Lookup) (listed : Bool) (items : List Item) (at n k : ℕ) (s : Passing) → s.stops ≡ 0
    → along (λ d. passing_step l listed (nth items (at - 1 - d))) n k s ≡ s
before_stops l listed items at = along-stays l listed (λ d. nth items (at - 1 - d))

-- where nothing is passed over, nothing is charged
pub passed_free : (l : Lookup) (listed : Bool) (items : List Item) (at : ℕ) (s : Tally) → passed l listed items at s ≡ 0
    → passed_charged l listed items at s ≡ Some s.left
passed_free l listed items at s none =
    let e : min (s.tries * 0) most_countable ≡ 0 = omega arith in
    ap (λ n. charged (min (s.tries * n) most_countable) s.left) none
    ∙ ap (λ n. charged n s.left) e
    ∙ free (nat_lt s.left 0) refl
  where
    free : (t : Bool) → nat_lt s.left 0 ≡ t → (if t then None else Some (s.left - 0)) ≡ Some s.left
    free true is = grind (arith, nat_tests, is)
    free false is = ap Some (omega arith)
