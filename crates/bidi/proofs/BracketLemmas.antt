-- The rule N0: brackets that are open, and one character on.
use Rattle.std.proofs.Common.{◌≡◌, ℕ, ◌+◌, ◌&&◌, not, Bool, ◌<◌, ◌==◌, true, false, List, [], ◌∷◌, length, get_or, reverse, take, drop, refl, ap, ap₂, sym, ◌∙◌, arith}
use Rattle.std.specs.Prelude.{nat_lt, slice_set}
use Rattle.std.proofs.lemmas.Bool.Decides.{nat_tests}
use Rattle.std.proofs.lemmas.Bool.{cond-true, cond-false, or_parts}
use Rattle.std.proofs.lemmas.List.{drop_more, reverse-append, take_more}
use Rattle.ucd_bidi.specs.declared.BidiClass.{BidiClass}
use Rattle.ucd_bidi.specs.declared.BidiClass.TheVariants.{ArabicLetter}
use Rattle.std.specs.List.{list_any}
use Rattle.bidi.specs.Brackets.{Pairs, closed, closed_at, from_match, is_paired, n0_from, directed_then, pairs_from, pairs_step, with_pair}
use Rattle.bidi.specs.Weak.{next_class}
use Rattle.bidi.specs.declared.brackets.Open.{Open}
use Rattle.bidi.specs.declared.members.Member.{Member}

-- what is read past the end of a list
abbrev pub no_open : Open
no_open = record { closing = 0; place = 0 }

abbrev pub no_member : Member
no_member = record { place = 0; character = 0; original = ArabicLetter; class = ArabicLetter; level = 0; before = 0; after = 0 }

pub reverse_more : (es : List Open) (n : ℕ) → n < length es → reverse (take (n + 1) es) ≡ get_or es n no_open ∷ reverse (take n es)
reverse_more es n lt = ap reverse (take_more es n no_open lt) ∙ reverse-append (take n es) (get_or es n no_open ∷ [])

module _ (closing count n : ℕ) (es : List Open) (is_next : count ≡ n + 1) (lt : n < length es) where
  top : reverse (take count es) ≡ get_or es n no_open ∷ reverse (take n es)
  top = ap (λ k. reverse (take k es)) is_next ∙ reverse_more es n lt

  pub match_found : ((get_or es n no_open).closing == closing) ≡ true → from_match closing (reverse (take count es)) ≡ reverse (take count es)
  match_found on = ap (from_match closing) top ∙ cond-true ((get_or es n no_open).closing == closing) _ _ on ∙ sym top

  pub match_below : ((get_or es n no_open).closing == closing) ≡ false → from_match closing (reverse (take count es)) ≡ from_match closing (reverse (take n es))
  match_below off = ap (from_match closing) top ∙ cond-false ((get_or es n no_open).closing == closing) _ _ off

  pub closed_some : (place : ℕ) (pairs : Pairs) → pairs.stack ≡ reverse es → reverse (take count es) ≡ from_match closing (reverse es)
      → closed closing place pairs ≡ record pairs { stack = reverse (take n es); closes = slice_set pairs.closes (get_or es n no_open).place place }
  closed_some place pairs is found =
      ap (λ l. closed_at (from_match closing l) place pairs) is ∙ ap (λ l. closed_at l place pairs) (sym found ∙ top)

pub closed_none : (closing place : ℕ) (es : List Open) (pairs : Pairs) → pairs.stack ≡ reverse es → reverse (take 0 es) ≡ from_match closing (reverse es)
    → closed closing place pairs ≡ pairs
closed_none closing place es pairs is found =
    ap (λ l. closed_at (from_match closing l) place pairs) is ∙ ap (λ l. closed_at l place pairs) (sym found)

-- BD16, one character on
pub pairs_on : (n : ℕ) (pairs : Pairs) (ms : List Member) (cs : List BidiClass) → n < length ms → n < length cs
    → pairs_from (n + 1) (pairs_step n (get_or cs n ArabicLetter) (get_or ms n no_member).character pairs) (drop (n + 1) ms) (drop (n + 1) cs)
    ≡ pairs_from n pairs (drop n ms) (drop n cs)
pairs_on n pairs ms cs lt lt' = sym (ap₂ (pairs_from n pairs) (drop_more ms n no_member lt) (drop_more cs n ArabicLetter lt'))

-- N0, one character on
pub n0_on : (embedding before next : BidiClass) (ms : List Member) (place : ℕ) (closes : List ℕ) (old new : List BidiClass) → place < length closes
    → new ≡ with_pair embedding before ms place (get_or closes place 0) old → next ≡ directed_then before (next_class (drop place new))
    → n0_from embedding ms (place + 1) next (drop (place + 1) closes) new ≡ n0_from embedding ms place before (drop place closes) old
n0_on embedding before next ms place closes old new lt is_new is_next =
    ap (λ b. n0_from embedding ms (place + 1) b (drop (place + 1) closes) new) is_next
    ∙ ap (λ l. n0_from embedding ms (place + 1) (directed_then before (next_class (drop place l))) (drop (place + 1) closes) l) is_new
    ∙ sym (ap (λ l. n0_from embedding ms place before l old) (drop_more closes place 0 lt))

-- N0 where no bracket is paired
close_none : (embedding before : BidiClass) (ms : List Member) (place close : ℕ) (cs : List BidiClass) → (close == 0) ≡ true
    → with_pair embedding before ms place close cs ≡ cs
close_none embedding before ms place close cs zero_close =
    let e : close ≡ 0 = grind (arith, nat_tests) in
    let off : nat_lt place close ≡ false = grind (arith, nat_tests) in
    cond-false (nat_lt place close && nat_lt close (length cs)) _ cs (ap (λ b. b && nat_lt close (length cs)) off)

not_false : (b : Bool) → not b ≡ false → b ≡ true
not_false true h = refl
not_false false h = cc

pub no_pair : (embedding before : BidiClass) (ms : List Member) (place : ℕ) (closes : List ℕ) (cs : List BidiClass) → list_any is_paired closes ≡ false
    → n0_from embedding ms place before closes cs ≡ cs
no_pair embedding before ms place [] cs h = refl
no_pair embedding before ms place (close ∷ closes) cs h =
    let parts = or_parts (is_paired close) (list_any is_paired closes) h in
    ap (λ l. n0_from embedding ms (place + 1) (directed_then before (next_class (drop place l))) closes l)
    (close_none embedding before ms place close cs (not_false (close == 0) parts.0))
    ∙ no_pair embedding (directed_then before (next_class (drop place cs))) ms (place + 1) closes cs parts.1
