-- bytes as text
use Rattle.std.proofs.Common.{◌≡◌, ℕ, List, refl}
use Rattle.std.specs.Prelude.{Some, None}
use Rattle.std.specs.Str.{IsUtf8, is_utf8}
use Rattle.std.proofs.lemmas.Str.{IsUtf8-from_is_utf8, is_utf8-from_IsUtf8}
use Rattle.std.proofs.lemmas.Bool.{false_from_ne_true}
use Rattle.shape_text_forms.specs.FontNames.{text_of}

pub text_of_utf8 : (bytes : List ℕ) → IsUtf8 bytes → text_of bytes ≡ Some bytes
text_of_utf8 bytes utf8 = rw (is_utf8-from_IsUtf8 bytes utf8) refl

pub text_of_other : (bytes : List ℕ) → ¬ (IsUtf8 bytes) → text_of bytes ≡ None
text_of_other bytes other = rw (false_from_ne_true (is_utf8 bytes) (λ e. other (IsUtf8-from_is_utf8 bytes e))) refl
