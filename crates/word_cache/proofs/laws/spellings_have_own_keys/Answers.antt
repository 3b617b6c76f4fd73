use Rattle.std.proofs.Common.{◌≡◌, ℕ, List, ◌∷◌, sym, ap, ◌∙◌}
use Rattle.std.proofs.lemmas.Str.{encodes-chars}
use Rattle.std.specs.Str.{IsUtf8, chars, encode_utf8_all}
use Rattle.word_cache.proofs.laws.spellings_have_own_keys.Goals as goal

own_key : (number : ℕ) (one other : List ℕ) → IsUtf8 one → IsUtf8 other → number ∷ chars one ≡ number ∷ chars other → one ≡ other
own_key number one other valid valid_other same =
    let characters : chars one ≡ chars other = cc in
    sym (encodes-chars one valid) ∙ ap encode_utf8_all characters ∙ encodes-chars other valid_other

pub returns : goal.returns
returns c = own_key
