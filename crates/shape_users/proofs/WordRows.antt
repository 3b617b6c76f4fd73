-- The rows of what a cache keeps.
use Rattle.std.proofs.Common.{◌≡◌, ◌≢◌, ℕ, ◌<◌, List, [], ◌∷◌, length, get_or, refl, inl, inr, ap, sym, ◌∙◌, subst, arith}
use Rattle.shape_plan.specs.Run.{Run}
use Rattle.shape_users.specs.Words.{AreSpelledAlike, IsOneWordMore, KeepsWords}
use Rattle.shape_users.specs.Worked.Words.{bytes_of, own_glyphs, WordsTaken, WorkedWords}
use Rattle.shape_users.specs.declared.words.Word.{Word}

words_taken : WordsTaken
words_taken = record {
  found = λ run a b s. inl (omega arith, refl);
  first = λ run a own. inr (
    refl,
    record {
      nowhere = λ k d below. absurd (omega arith);
      word = a;
      behind = refl;
      spelling_is = refl;
      glyphs_are = own;
    },
  );
  second = λ run a b apart own. inr (
    refl,
    record {
      nowhere = λ k d below alike.
          let one : k ≡ 0 = omega arith in
          apart (subst (λ (word : Word). AreSpelledAlike run (bytes_of word) (bytes_of b)) (ap (λ n. get_or (a ∷ []) n d) one) alike);
      word = b;
      behind = refl;
      spelling_is = refl;
      glyphs_are = own;
    },
  );
}

found_changes : (run : Run) (a b : Word) (s : List ℕ) → a ≢ b → KeepsWords run (a ∷ []) (b ∷ []) 0 s → ⊥
found_changes run a b s apart (inl found) = apart (ap (λ words. get_or words 0 a) (sym found.1))
found_changes run a b s apart (inr more) = let no : 0 ≡ 1 = more.0 in omega (arith, no)

other_changes : (run : Run) (a b c : Word) (s : List ℕ) → a ≢ b → KeepsWords run (a ∷ []) (b ∷ c ∷ []) 1 s → ⊥
other_changes run a b c s apart (inl found) = let no : 2 ≡ 1 = ap length found.1 in omega (arith, no)
other_changes run a b c s apart (inr more) = apart (ap (λ words. get_or words 0 a) (sym more.1.behind))

lost : (run : Run) (a b : Word) (s : List ℕ) → KeepsWords run (a ∷ []) (b ∷ []) 1 s → ⊥
lost run a b s (inl found) = let no : 1 < 1 = found.0 in omega (arith, no)
lost run a b s (inr more) = let no : 1 ≡ 2 = ap length more.1.behind in omega (arith, no)

before : (run : Run) (a b : Word) (s : List ℕ) → KeepsWords run (a ∷ []) (b ∷ a ∷ []) 0 s → ⊥
before run a b s (inl found) = let no : 2 ≡ 1 = ap length found.1 in omega (arith, no)
before run a b s (inr more) = let no : 0 ≡ 1 = more.0 in omega (arith, no)

twice : (run : Run) (a b : Word) → KeepsWords run (a ∷ []) (a ∷ b ∷ []) 1 (bytes_of a) → ⊥
twice run a b (inl found) = let no : 1 < 1 = found.0 in omega (arith, no)
twice run a b (inr more) = more.1.nowhere 0 a (omega arith) refl

no_word : (run : Run) (s : List ℕ) → KeepsWords run [] [] 0 s → ⊥
no_word run s (inl found) = let no : 0 < 0 = found.0 in omega (arith, no)
no_word run s (inr more) = let no : 0 ≡ 1 = ap length more.1.behind in omega (arith, no)

two_more : (run : Run) (a b : Word) (s : List ℕ) → KeepsWords run [] (a ∷ b ∷ []) 0 s → ⊥
two_more run a b s (inl found) = let no : 0 < 0 = found.0 in omega (arith, no)
two_more run a b s (inr more) = let no : 2 ≡ 1 = ap length more.1.behind in omega (arith, no)

-- the word that stands alone is the one that was added
module _ (run : Run) (a : Word) (s : List ℕ) (more : IsOneWordMore run [] (a ∷ []) s) where
  alone : more.word ≡ a
  alone = ap (λ words. get_or words 0 a) (sym more.behind)

other_spelling : (run : Run) (a : Word) (s : List ℕ) → bytes_of a ≢ s → KeepsWords run [] (a ∷ []) 0 s → ⊥
other_spelling run a s other (inl found) = let no : 0 < 0 = found.0 in omega (arith, no)
other_spelling run a s other (inr more) = other (ap bytes_of (sym (alone run a s more.1)) ∙ more.1.spelling_is)

other_glyphs : (run : Run) (a : Word) → a.glyphs ≢ own_glyphs run a → KeepsWords run [] (a ∷ []) 0 (bytes_of a) → ⊥
other_glyphs run a other (inl found) = let no : 0 < 0 = found.0 in omega (arith, no)
other_glyphs run a other (inr more) =
    other (ap (λ (word : Word). word.glyphs) (sym (alone run a (bytes_of a) more.1)) ∙ more.1.glyphs_are)

pub worked_words : WorkedWords
worked_words = record {
  taken = words_taken;
  refused = record {
    found_changes = found_changes;
    other_changes = other_changes;
    lost = lost;
    before = before;
    twice = twice;
    no_word = no_word;
    two_more = two_more;
    other_spelling = other_spelling;
    other_glyphs = other_glyphs;
  };
}
