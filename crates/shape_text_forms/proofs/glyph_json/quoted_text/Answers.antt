use Rattle.std.proofs.Common.{string_bytes}
use Rattle.std.proofs.lemmas.Result.{IfOk-weaker}
use Rattle.serde_json.proofs.FreeTexts.{text_of_str}
use Rattle.shape_text_forms.proofs.glyph_json.quoted_text.Goals as goal

pub returns : goal.returns
returns c = IfOk-weaker c.to_string.result _ _ (λ s h. text_of_str _ h.0 (string_bytes s) h.1 h.2) c.to_string.ensures.events
