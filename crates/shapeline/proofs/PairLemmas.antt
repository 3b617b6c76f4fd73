-- A line of two texts can be parted in one way only.
use Rattle.std.proofs.Common.{◌≡◌, ◌≢◌, ℕ, ◌<◌, ⊎_elim, List, [], ◌∷◌, ◌++◌, ◌==◌, refl, sym, ◌∙◌, subst, arith}
use Rattle.std.proofs.lemmas.Bool.{cases_Bool}
use Rattle.std.proofs.lemmas.Bool.Decides.{nat_tests}
use Rattle.std.proofs.lemmas.List.Elements.{All-head, All-tail, All-nil, All-cons, All-filter}
use Rattle.std.proofs.lemmas.List.Splits.{slice_split-cons_yes, slice_split-cons_no}
use Rattle.std.specs.Char.{digit_value}
use Rattle.std.specs.List.{All, AllByRecursion, slice_split, onto_first}
use Rattle.std.specs.Str.Parse.{AllDigits}
use Rattle.shape_sessions.proofs.WordLemmas.{NoSlash, LacksSlash}
use Rattle.shape_sessions.specs.Text.{IsCharacterWord, IsText, IsPair}
use Rattle.shape_sessions.specs.Words.{words, is_some_text}

digit-lacks : (c : ℕ) → digit_value c < 16 → c ≢ 47
digit-lacks c digit same = let none : digit_value 47 < 16 = subst (λ b. digit_value b < 16) same digit in grind (arith, nat_tests, none)

digits-lack : (word : List ℕ) → AllDigits 16 word → NoSlash word
digits-lack [] digits = All-nil (λ b. b ≢ 47)
digits-lack (c ∷ cs) digits = All-cons (λ b. b ≢ 47) c cs (digit-lacks c digits.0) (digits-lack cs digits.1)

-- no word of a text has a `/`
text-lacks : (text : List (List ℕ)) → AllByRecursion IsCharacterWord text → All NoSlash text
text-lacks [] all = All-nil NoSlash
text-lacks (w ∷ ws) all = All-cons NoSlash w ws (digits-lack w all.0.1.1) (text-lacks ws all.1)

onto_first-lack : (b : ℕ) (parts : List (List ℕ)) → b ≢ 47 → All NoSlash parts → All NoSlash (onto_first b parts)
onto_first-lack b [] unlike lack = All-cons NoSlash (b ∷ []) [] (All-cons (λ x. x ≢ 47) b [] unlike (All-nil (λ x. x ≢ 47))) lack
onto_first-lack b (p ∷ ps) unlike lack =
    All-cons NoSlash (b ∷ p) ps (All-cons (λ x. x ≢ 47) b p unlike (All-head NoSlash p ps lack)) (All-tail NoSlash p ps lack)

parts-lack : (line : List ℕ) → NoSlash line → All NoSlash (slice_split (λ b. b == 32) line)
parts-lack [] none = All-cons NoSlash [] [] none (All-nil NoSlash)
parts-lack (b ∷ bs) none =
    let unlike : b ≢ 47 = All-head (λ x. x ≢ 47) b bs none in
    let later = parts-lack bs (All-tail (λ x. x ≢ 47) b bs none) in
    ⊎_elim
    (λ space. subst (All NoSlash) (sym (slice_split-cons_yes (λ x. x == 32) b bs space))
    (All-cons NoSlash [] (slice_split (λ x. x == 32) bs) (All-nil (λ x. x ≢ 47)) later))
    (λ letter. subst (All NoSlash) (sym (slice_split-cons_no (λ x. x == 32) b bs letter))
    (onto_first-lack b (slice_split (λ x. x == 32) bs) unlike later))
    (cases_Bool (b == 32))

words-lack : (line : List ℕ) → NoSlash line → All NoSlash (words line)
words-lack line none = All-filter is_some_text NoSlash (slice_split (λ b. b == 32) line) (parts-lack line none)

slash-stands_out : (word : List ℕ) → NoSlash word → word ≢ 47 ∷ []
slash-stands_out word none same = All-head (λ b. b ≢ 47) 47 [] (subst NoSlash same none) refl

-- the first word `/` stands at one place
parted_once : (xs us ys vs : List (List ℕ)) → All NoSlash xs → All NoSlash us → xs ++ (47 ∷ []) ∷ ys ≡ us ++ (47 ∷ []) ∷ vs
    → (xs ≡ us) × (ys ≡ vs)
parted_once [] [] ys vs left right same = (refl, cc)
parted_once [] (u ∷ us) ys vs left right same = absurd (slash-stands_out u (All-head NoSlash u us right) cc)
parted_once (x ∷ xs) [] ys vs left right same = absurd (slash-stands_out x (All-head NoSlash x xs left) cc)
parted_once (x ∷ xs) (u ∷ us) ys vs left right same =
    let first : x ≡ u = cc in
    let rest = parted_once xs us ys vs (All-tail NoSlash x xs left) (All-tail NoSlash u us right) cc in
    (cc, rest.1)

-- without a word `/` after words that have none a line is no pair
pub no_slash-no_pair : (line : List ℕ) → LacksSlash line → ¬ IsPair (words line)
no_slash-no_pair line lacks pair = lacks pair.0 pair.1 (text-lacks pair.0 pair.3.0) pair.2

-- the sides of a pair are texts
pub pair-sides : (line first second : List ℕ) → words line ≡ words first ++ (47 ∷ []) ∷ words second → NoSlash first → IsPair (words line)
    → IsText (words first) × IsText (words second)
pair-sides line first second parted none pair =
    let same = parted_once pair.0 (words first) pair.1 (words second) (text-lacks pair.0 pair.3.0) (words-lack first none)
    (sym pair.2 ∙ parted) in
    (subst IsText same.0 pair.3, subst IsText same.1 pair.4)
