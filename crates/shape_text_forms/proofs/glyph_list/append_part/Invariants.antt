use Rattle.std.proofs.Common.{◌≡◌, ◌++◌, drop, string_bytes}
use Rattle.shape_text_forms.specs.Serialize.{Form, form_of}
use Rattle.shape_text_forms.specs.Lists.{part_text, spot_after}
use Rattle.shape_text_forms.proofs.glyph_list.append_part.Given as goal

-- what is written and what is left make the part
abbrev pub invariant-loop-i : goal.invariant-loop-i
invariant-loop-i g l =
    let c = l.content in
    let form : Form = form_of c.flags.0 (g.N.glyph_names.name c.names.now) (g.F.hb_font_t.face c.face.now) in
    record {
      written : string_bytes l.out ++ part_text c.form form l.spot (drop l.i l.infos) (drop l.i l.positions)
          ≡ string_bytes l.initial.out ++ part_text c.form form l.initial.spot l.infos l.positions;
      here : spot_after c.flags.0 l.spot (drop l.i l.positions) ≡ spot_after c.flags.0 l.initial.spot l.positions;
    }
