-- Canonical form end to end: preparing prepares, so the premises that normalising asks of a buffer hold of every
-- prepared text.
use Rattle.std.proofs.Common.{◌≡◌, ℕ, List, refl, sym, subst}
use Rattle.std.specs.Prelude.{◌↔◌}
use Rattle.shape_items.specs.Buffer.{Buffer}
use Rattle.shape_common.specs.Face.{FaceMeaning}
use Rattle.shape_buffer.specs.Guess.{guessed}
use Rattle.shape_buffer.specs.Layout.{LookupMeaning, MapMeaning}
use Rattle.shape_items.specs.Prepared.{IsPrepared}
use Rattle.shape_common.specs.Unicode.{UnicodeMeaning, LawfulUnicode}
use Rattle.shape_normalize.specs.CanonicalForm.{text_of, AreEquivalent, HasNoSelector, CanonicalTextPremises, NormalizesCanonically, EquivalencePremises, CanonicalFormPremises, PlainPremises}
use Rattle.shape_normalize.proofs.Form.CanonicalFormLemmas.{NormalizesCanonically-normalized}
use Rattle.shape_plan.specs.Plan.{Plan}
use Rattle.shape_plan.specs.Run.{Run, run_of}
use Rattle.shape_plan.specs.Shaper.{HookMeaning, ShaperConstants}
use Rattle.shape_pipeline.specs.Canonical.{RunPreservesEquivalence, HasPlainText, HasCanonicalText, HasCanonicalList, ListIsCanonical, LeavesText, HasOwnCharacters, SpellingsMeet, prepared_characters, normalised_characters}
use Rattle.shape_pipeline.specs.Headline.{target_of, prepared_text, normalised_list}
use Rattle.shape_pipeline.specs.Shaped.{entered}
use Rattle.shape_pipeline.proofs.PremiseLemmas.{prepared_text-prepared}
use Rattle.shape_pipeline.proofs.RunLemmas.{prepared_text-cases}
use Rattle.shape_prepare.proofs.Preservation.CharacterLemmas.{preparing_preserves_characters}

module _ (run : Run) (same : run.rules.unicode ≡ run.unicode) (lawful : LawfulUnicode run.unicode)
    (preserves : RunPreservesEquivalence run) where
  is_prepared : (text : Buffer) → IsPrepared run.rules.unicode (prepared_text run text).items
  is_prepared text = rw same (prepared_text-prepared run text lawful preserves.preprocess)

  equivalence : (text : Buffer) → HasPlainText run text → EquivalencePremises run.rules (prepared_text run text)
  equivalence text plain = record {
    text = record { lawful_hooks = preserves.lawful_hooks; no_selector = plain; no_reordering = preserves.no_reordering };
    prepared = is_prepared text;
  }

  canonical_form : (text : Buffer) → HasCanonicalText run text → CanonicalFormPremises run.rules (prepared_text run text)
  canonical_form text canonical = record { equivalence = equivalence text canonical.plain; canonical = canonical.canonical }

  plain : (text : Buffer) → HasPlainText run text → PlainPremises run.rules (prepared_text run text)
  plain text none = record { prepared = is_prepared text; no_selector = none; no_reordering = preserves.no_reordering }

  normalises : (text : Buffer) → NormalizesCanonically run.rules (prepared_text run text) (normalised_list run text)
  normalises text =
      let unicode : LawfulUnicode run.rules.unicode = rw same lawful in
      NormalizesCanonically-normalized run.rules unicode (prepared_text run text) (normalised_list run text) refl

  canonical_list : (text : Buffer) → HasCanonicalList run text
  canonical_list text = record {
    equivalent = λ none. (normalises text).equivalent (equivalence text none);
    canonical = λ mode is. (normalises text).canonical mode (canonical_form text is);
    recomposed = λ mode is. (normalises text).recomposed mode (canonical_form text is);
    decides = λ other is other_is. (normalises text).decides (prepared_text run other) (canonical_form text is) (canonical_form other other_is);
    by_characters = λ other none other_none. (normalises text).by_characters (prepared_text run other) (plain text none) (plain other other_none);
    cuts = λ front back cut. (normalises text).cuts (prepared_text run front) (prepared_text run back) (record {
      parts = cut.parts;
      plain = plain text cut.plain;
      plain_front = plain front cut.plain_front;
      plain_back = plain back cut.plain_back;
      unmarked = cut.unmarked;
      unmarked_choice = cut.unmarked_choice;
      front_marked = cut.front_marked;
      back_marked = cut.back_marked;
    });
  }

-- the normalised list of any text is canonical, if the run's hooks preserve equivalence
pub list_is_canonical : {S P D F : Type 0} (unicode : UnicodeMeaning) (masks : P → MapMeaning) (lookups : P → F → LookupMeaning)
    (constants : ShaperConstants) (hooks : S → Plan S P D → F → HookMeaning) (faces : F → FaceMeaning) (plan : Plan S P D) (face : F)
    → LawfulUnicode unicode → (text : Buffer) → ListIsCanonical (run_of unicode masks lookups constants hooks faces plan face) text
list_is_canonical unicode masks lookups constants hooks faces plan face lawful text preserves =
    canonical_list (run_of unicode masks lookups constants hooks faces plan face) refl lawful preserves text

-- ---- texts that preparing leaves

-- the prepared text has the characters of such a text; a text without items is its own prepared text
pub left-prepared : (run : Run) (text : Buffer) → LeavesText run text → prepared_characters run text ≡ text_of text
left-prepared run text left =
    let begun = guessed run.unicode text in
    prepared_text-cases (λ b. text_of b ≡ text_of text) run (target_of run text) begun begun.items
    (λ none. refl)
    (preparing_preserves_characters run (target_of run text) (entered begun) left)

module _ (run : Run) (same : run.rules.unicode ≡ run.unicode) (lawful : LawfulUnicode run.unicode)
    (preserves : RunPreservesEquivalence run) where
  own_characters : (text : Buffer) → HasOwnCharacters run text → HasCanonicalText run text
  own_characters text own =
      let e = sym (left-prepared run text own.left) in record {
        plain = subst (HasNoSelector run.rules) e own.plain;
        canonical = subst (CanonicalTextPremises run.rules) e own.canonical;
      }

  spellings_meet : SpellingsMeet run
  spellings_meet one other own other_own =
      let meet = (canonical_list run same lawful preserves one).decides other (own_characters one own) (own_characters other other_own) in
      subst (λ (t : List ℕ). (normalised_characters run one ≡ normalised_characters run other) ↔ AreEquivalent run.rules t (text_of other))
      (left-prepared run one own.left)
      (subst (λ (t : List ℕ). (normalised_characters run one ≡ normalised_characters run other)
      ↔ AreEquivalent run.rules (prepared_characters run one) t) (left-prepared run other other_own.left) meet)

pub spellings_meet-run : {S P D F : Type 0} (unicode : UnicodeMeaning) (masks : P → MapMeaning) (lookups : P → F → LookupMeaning)
    (constants : ShaperConstants) (hooks : S → Plan S P D → F → HookMeaning) (faces : F → FaceMeaning) (plan : Plan S P D) (face : F)
    → LawfulUnicode unicode → RunPreservesEquivalence (run_of unicode masks lookups constants hooks faces plan face)
    → SpellingsMeet (run_of unicode masks lookups constants hooks faces plan face)
spellings_meet-run unicode masks lookups constants hooks faces plan face lawful preserves =
    spellings_meet (run_of unicode masks lookups constants hooks faces plan face) refl lawful preserves
