-- The rule X9, one character on.
use Rattle.std.proofs.Common.{◌≡◌, ℕ, ◌+◌, ◌<◌, true, false, List, [], ◌∷◌, ◌++◌, length, get_or, drop, ap, ap₂, sym, ◌∙◌, append_assoc}
use Rattle.std.proofs.lemmas.Bool.{cond-true, cond-false}
use Rattle.std.proofs.lemmas.List.{drop_more}
use Rattle.ucd_bidi.specs.declared.BidiClass.{BidiClass}
use Rattle.ucd_bidi.specs.declared.BidiClass.TheVariants.{ArabicLetter}
use Rattle.bidi.specs.Classes.{is_removed}
use Rattle.bidi.specs.Members.{level_after, members_from}
use Rattle.bidi.specs.declared.explicit.Placed.{Placed}
use Rattle.bidi.specs.declared.members.Member.{Member}

-- what is read past the end of a list
abbrev pub no_placed : Placed
no_placed = record { level = 0; class = ArabicLetter }

module _ (base n : ℕ) (ks : List BidiClass) (ps : List Placed) (lt : n < length ks) (lt' : n < length ps) where
  after_at : level_after base (drop n ks) (drop n ps)
      ≡ level_after base (get_or ks n ArabicLetter ∷ drop (n + 1) ks) (get_or ps n no_placed ∷ drop (n + 1) ps)
  after_at = ap₂ (level_after base) (drop_more ks n ArabicLetter lt) (drop_more ps n no_placed lt')

  pub after_removed : is_removed (get_or ks n ArabicLetter) ≡ true
      → level_after base (drop n ks) (drop n ps) ≡ level_after base (drop (n + 1) ks) (drop (n + 1) ps)
  after_removed on = after_at ∙ cond-true (is_removed (get_or ks n ArabicLetter)) _ _ on

  pub after_left : is_removed (get_or ks n ArabicLetter) ≡ false → level_after base (drop n ks) (drop n ps) ≡ (get_or ps n no_placed).level
  after_left off = after_at ∙ cond-false (is_removed (get_or ks n ArabicLetter)) _ _ off

abbrev pub member_at : ℕ → ℕ → ℕ → List ℕ → List BidiClass → List Placed → Member
member_at base before n cs ks ps = record {
  place = n;
  character = get_or cs n 0;
  original = get_or ks n ArabicLetter;
  class = (get_or ps n no_placed).class;
  level = (get_or ps n no_placed).level;
  before = before;
  after = level_after base (drop (n + 1) ks) (drop (n + 1) ps);
}

module _ (base before n : ℕ) (cs : List ℕ) (ks : List BidiClass) (ps : List Placed) (done : List Member) (lt : n < length cs)
    (lt' : n < length ks) (lt'' : n < length ps) where
  members_at : members_from base before n (drop n cs) (drop n ks) (drop n ps)
      ≡ members_from base before n (get_or cs n 0 ∷ drop (n + 1) cs) (get_or ks n ArabicLetter ∷ drop (n + 1) ks) (get_or ps n no_placed ∷ drop (n + 1) ps)
  members_at =
      ap₂ (λ a b. members_from base before n a b (drop n ps)) (drop_more cs n 0 lt) (drop_more ks n ArabicLetter lt')
      ∙ ap (members_from base before n (get_or cs n 0 ∷ drop (n + 1) cs) (get_or ks n ArabicLetter ∷ drop (n + 1) ks)) (drop_more ps n no_placed lt'')

  pub member_removed : is_removed (get_or ks n ArabicLetter) ≡ true
      → done ++ members_from base before (n + 1) (drop (n + 1) cs) (drop (n + 1) ks) (drop (n + 1) ps)
      ≡ done ++ members_from base before n (drop n cs) (drop n ks) (drop n ps)
  member_removed on = ap (λ l. done ++ l) (sym (members_at ∙ cond-true (is_removed (get_or ks n ArabicLetter)) _ _ on))

  pub member_left : is_removed (get_or ks n ArabicLetter) ≡ false
      → (done ++ member_at base before n cs ks ps ∷ []) ++ members_from base (get_or ps n no_placed).level (n + 1) (drop (n + 1) cs) (drop (n + 1) ks) (drop (n + 1) ps)
      ≡ done ++ members_from base before n (drop n cs) (drop n ks) (drop n ps)
  member_left off =
      append_assoc done (member_at base before n cs ks ps ∷ []) _
      ∙ ap (λ l. done ++ l) (sym (members_at ∙ cond-false (is_removed (get_or ks n ArabicLetter)) _ _ off))
