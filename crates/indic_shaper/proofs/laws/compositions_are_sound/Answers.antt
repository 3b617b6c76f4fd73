use Rattle.indic_shaper.proofs.ComposingLemmas.{composed-sound}
use Rattle.indic_shaper.proofs.laws.compositions_are_sound.Goals as goal

pub returns : goal.returns
returns g c = λ sound. record {
  equivalent = composed-sound g.U.hb_unicode_funcs_t.unicode g.met.U.hb_unicode_funcs_t.lawful sound;
}
