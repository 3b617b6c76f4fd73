-- HarfBuzz's table of joining, row by row: for each state and kind of the next character the form that the letter before it
-- gets, its own form and the state after it.
use Rattle.std.specs.Prelude.{◌≡◌, true, false, None, Some, [], ◌∷◌, map, refl}
use Rattle.letter_joining.specs.Joining.{next_state, own_form, form_before, form_number, is_joined_by, joined_form, kind_number, place_of, state_number}
use Rattle.letter_joining.specs.declared.joining.Kind.{Kind}
use Rattle.letter_joining.specs.declared.joining.Kind.TheVariants as kind
use Rattle.letter_joining.specs.declared.joining.State.{State}
use Rattle.letter_joining.specs.declared.joining.State.TheVariants as state
use Rattle.letter_joining.specs.declared.joining.Form.{Form}
use Rattle.letter_joining.specs.declared.joining.Form.TheVariants as form

abbrev pub Entry : State → Kind → Form → Form → State → Type 0
Entry s k before own next = (form_before s k ≡ before) × (own_form s k ≡ own) × (next_state s k ≡ next)

pub record WorkedJoining : Type 0 where
  pub free-apart : Entry state.Free kind.Apart form.None form.None state.Free
  pub free-left : Entry state.Free kind.Left form.None form.Isol state.Begun
  pub free-right : Entry state.Free kind.Right form.None form.Isol state.Ended
  pub free-dual : Entry state.Free kind.Dual form.None form.Isol state.Begun
  pub free-alaph : Entry state.Free kind.Alaph form.None form.Isol state.Ended
  pub free-dalathrish : Entry state.Free kind.DalathRish form.None form.Isol state.AfterDalath
  pub ended-apart : Entry state.Ended kind.Apart form.None form.None state.Free
  pub ended-left : Entry state.Ended kind.Left form.None form.Isol state.Begun
  pub ended-right : Entry state.Ended kind.Right form.None form.Isol state.Ended
  pub ended-dual : Entry state.Ended kind.Dual form.None form.Isol state.Begun
  pub ended-alaph : Entry state.Ended kind.Alaph form.None form.Fin2 state.FinalAlaph
  pub ended-dalathrish : Entry state.Ended kind.DalathRish form.None form.Isol state.AfterDalath
  pub begun-apart : Entry state.Begun kind.Apart form.None form.None state.Free
  pub begun-left : Entry state.Begun kind.Left form.None form.Isol state.Begun
  pub begun-right : Entry state.Begun kind.Right form.Init form.Fina state.Ended
  pub begun-dual : Entry state.Begun kind.Dual form.Init form.Fina state.Going
  pub begun-alaph : Entry state.Begun kind.Alaph form.Init form.Fina state.JoinedAlaph
  pub begun-dalathrish : Entry state.Begun kind.DalathRish form.Init form.Fina state.AfterDalath
  pub going-apart : Entry state.Going kind.Apart form.None form.None state.Free
  pub going-left : Entry state.Going kind.Left form.None form.Isol state.Begun
  pub going-right : Entry state.Going kind.Right form.Medi form.Fina state.Ended
  pub going-dual : Entry state.Going kind.Dual form.Medi form.Fina state.Going
  pub going-alaph : Entry state.Going kind.Alaph form.Medi form.Fina state.JoinedAlaph
  pub going-dalathrish : Entry state.Going kind.DalathRish form.Medi form.Fina state.AfterDalath
  pub joinedalaph-apart : Entry state.JoinedAlaph kind.Apart form.None form.None state.Free
  pub joinedalaph-left : Entry state.JoinedAlaph kind.Left form.None form.Isol state.Begun
  pub joinedalaph-right : Entry state.JoinedAlaph kind.Right form.Med2 form.Isol state.Ended
  pub joinedalaph-dual : Entry state.JoinedAlaph kind.Dual form.Med2 form.Isol state.Begun
  pub joinedalaph-alaph : Entry state.JoinedAlaph kind.Alaph form.Med2 form.Fin2 state.FinalAlaph
  pub joinedalaph-dalathrish : Entry state.JoinedAlaph kind.DalathRish form.Med2 form.Isol state.AfterDalath
  pub finalalaph-apart : Entry state.FinalAlaph kind.Apart form.None form.None state.Free
  pub finalalaph-left : Entry state.FinalAlaph kind.Left form.None form.Isol state.Begun
  pub finalalaph-right : Entry state.FinalAlaph kind.Right form.Isol form.Isol state.Ended
  pub finalalaph-dual : Entry state.FinalAlaph kind.Dual form.Isol form.Isol state.Begun
  pub finalalaph-alaph : Entry state.FinalAlaph kind.Alaph form.Isol form.Fin2 state.FinalAlaph
  pub finalalaph-dalathrish : Entry state.FinalAlaph kind.DalathRish form.Isol form.Isol state.AfterDalath
  pub afterdalath-apart : Entry state.AfterDalath kind.Apart form.None form.None state.Free
  pub afterdalath-left : Entry state.AfterDalath kind.Left form.None form.Isol state.Begun
  pub afterdalath-right : Entry state.AfterDalath kind.Right form.None form.Isol state.Ended
  pub afterdalath-dual : Entry state.AfterDalath kind.Dual form.None form.Isol state.Begun
  pub afterdalath-alaph : Entry state.AfterDalath kind.Alaph form.None form.Fin3 state.FinalAlaph
  pub afterdalath-dalathrish : Entry state.AfterDalath kind.DalathRish form.None form.Isol state.AfterDalath
  -- the places of kinds, states and forms in tables, and those of a row of eight for each kind
  pub kind_numbers : map kind_number (kind.Apart ∷ kind.Left ∷ kind.Right ∷ kind.Dual ∷ kind.Alaph ∷ kind.DalathRish ∷ [])
      ≡ 0 ∷ 1 ∷ 2 ∷ 3 ∷ 4 ∷ 5 ∷ []
  pub state_numbers : map state_number
      (state.Free ∷ state.Ended ∷ state.Begun ∷ state.Going ∷ state.JoinedAlaph ∷ state.FinalAlaph ∷ state.AfterDalath ∷ [])
      ≡ 0 ∷ 1 ∷ 2 ∷ 3 ∷ 4 ∷ 5 ∷ 6 ∷ []
  pub form_numbers : map form_number
      (form.None ∷ form.Isol ∷ form.Fina ∷ form.Fin2 ∷ form.Fin3 ∷ form.Medi ∷ form.Med2 ∷ form.Init ∷ [])
      ≡ 0 ∷ 1 ∷ 2 ∷ 3 ∷ 4 ∷ 5 ∷ 6 ∷ 7 ∷ []
  pub place : place_of state.Going kind.Dual ≡ 27
  -- letters that the next one may join, and the form of one before such a letter
  pub joined_by : map is_joined_by
      (None ∷ Some kind.Apart ∷ Some kind.Left ∷ Some kind.Right ∷ Some kind.Dual ∷ Some kind.Alaph ∷ Some kind.DalathRish ∷ [])
      ≡ false ∷ false ∷ false ∷ true ∷ true ∷ true ∷ true ∷ []
  pub first_of_two : joined_form state.Free kind.Dual ≡ form.Init
  pub between_two : joined_form state.Begun kind.Dual ≡ form.Medi
  pub last_of_two : joined_form state.Begun kind.Right ≡ form.Fina
  pub alaph_between : joined_form state.Begun kind.Alaph ≡ form.Med2

pub worked_joining : WorkedJoining
worked_joining = record {
  free-apart = (refl, refl, refl);
  free-left = (refl, refl, refl);
  free-right = (refl, refl, refl);
  free-dual = (refl, refl, refl);
  free-alaph = (refl, refl, refl);
  free-dalathrish = (refl, refl, refl);
  ended-apart = (refl, refl, refl);
  ended-left = (refl, refl, refl);
  ended-right = (refl, refl, refl);
  ended-dual = (refl, refl, refl);
  ended-alaph = (refl, refl, refl);
  ended-dalathrish = (refl, refl, refl);
  begun-apart = (refl, refl, refl);
  begun-left = (refl, refl, refl);
  begun-right = (refl, refl, refl);
  begun-dual = (refl, refl, refl);
  begun-alaph = (refl, refl, refl);
  begun-dalathrish = (refl, refl, refl);
  going-apart = (refl, refl, refl);
  going-left = (refl, refl, refl);
  going-right = (refl, refl, refl);
  going-dual = (refl, refl, refl);
  going-alaph = (refl, refl, refl);
  going-dalathrish = (refl, refl, refl);
  joinedalaph-apart = (refl, refl, refl);
  joinedalaph-left = (refl, refl, refl);
  joinedalaph-right = (refl, refl, refl);
  joinedalaph-dual = (refl, refl, refl);
  joinedalaph-alaph = (refl, refl, refl);
  joinedalaph-dalathrish = (refl, refl, refl);
  finalalaph-apart = (refl, refl, refl);
  finalalaph-left = (refl, refl, refl);
  finalalaph-right = (refl, refl, refl);
  finalalaph-dual = (refl, refl, refl);
  finalalaph-alaph = (refl, refl, refl);
  finalalaph-dalathrish = (refl, refl, refl);
  afterdalath-apart = (refl, refl, refl);
  afterdalath-left = (refl, refl, refl);
  afterdalath-right = (refl, refl, refl);
  afterdalath-dual = (refl, refl, refl);
  afterdalath-alaph = (refl, refl, refl);
  afterdalath-dalathrish = (refl, refl, refl);
  kind_numbers = refl;
  state_numbers = refl;
  form_numbers = refl;
  place = refl;
  joined_by = refl;
  first_of_two = refl;
  between_two = refl;
  last_of_two = refl;
  alaph_between = refl;
}
