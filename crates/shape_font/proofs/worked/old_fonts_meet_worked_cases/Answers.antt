use Rattle.shape_font.specs.Worked.FontPages.{worked_font_pages, worked_forks}
use Rattle.shape_font.proofs.worked.old_fonts_meet_worked_cases.Goals as goal

pub returns-clause-pages : goal.returns-clause-pages
returns-clause-pages c = worked_font_pages

pub returns-clause-forks : goal.returns-clause-forks
returns-clause-forks c = worked_forks
