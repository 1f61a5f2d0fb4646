-- Which forms are one: "the canonical text is of the type's form".
use Rattle.std.specs.Prelude.{Bool, false, ◌&&◌, eqb}
use Rattle.texts.specs.declared.forms.DateForm.{DateForm}
use Rattle.texts.specs.declared.forms.TimeForm.{TimeForm}
use Rattle.texts.specs.declared.forms.Form.{Form}
use Rattle.types.specs.Numbers.{date_number, clock_number, zone_number}

-- Whether two forms of a date are one.
unfoldable pub same_date_form : DateForm → DateForm → Bool
same_date_form f g = eqb (date_number f) (date_number g)

-- Whether two forms of a time are one, n included.
unfoldable pub same_time_form : TimeForm → TimeForm → Bool
same_time_form f g =
    eqb (clock_number f.clock) (clock_number g.clock) && eqb f.digits g.digits && eqb (zone_number f.zone) (zone_number g.zone)

-- Whether two forms are one: laws same-form and form_same say that this is their equality.
abbrev pub same_form : Form → Form → Bool
same_form (Form.Date d) (Form.Date e) = same_date_form d e
same_form (Form.Date d) (Form.Time u) = false
same_form (Form.Date d) (Form.DateTime e u) = false
same_form (Form.Time t) (Form.Date e) = false
same_form (Form.Time t) (Form.Time u) = same_time_form t u
same_form (Form.Time t) (Form.DateTime e u) = false
same_form (Form.DateTime d t) (Form.Date e) = false
same_form (Form.DateTime d t) (Form.Time u) = false
same_form (Form.DateTime d t) (Form.DateTime e u) = same_date_form d e && same_time_form t u
