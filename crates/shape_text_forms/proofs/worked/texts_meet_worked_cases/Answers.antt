use Rattle.shape_text_forms.specs.Worked.Texts.{worked_names, worked_texts, worked_font_names}
use Rattle.shape_text_forms.specs.Worked.Json.{worked_lists}
use Rattle.shape_text_forms.specs.Worked.Starts.{worked_starts}
use Rattle.shape_text_forms.proofs.worked.texts_meet_worked_cases.Goals as goal

pub returns-clause-names : goal.returns-clause-names
returns-clause-names c = worked_names

pub returns-clause-texts : goal.returns-clause-texts
returns-clause-texts c = worked_texts

pub returns-clause-lists : goal.returns-clause-lists
returns-clause-lists c = worked_lists

pub returns-clause-font_names : goal.returns-clause-font_names
returns-clause-font_names c = worked_font_names

pub returns-clause-starts : goal.returns-clause-starts
returns-clause-starts c = worked_starts
