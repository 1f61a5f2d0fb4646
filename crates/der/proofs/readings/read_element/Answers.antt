use Rattle.der_elements.specs.Readings.{read_contents, read_element}
use mathlib.Core.Path.{◌∙◌, sym}
use Rattle.der_elements.proofs.Laws.Readings.{element_none, element_there}
use Rattle.der.proofs.readings.read_element.Goals as goal

pub returns-in_err-contents_under : goal.returns-in_err-contents_under
unfolding read_element
returns-in_err-contents_under c =
    let a = c.args in
    c.from_residual.ensures ∙ sym (element_none (read_contents a.name a.form) a.name a.octets.now (sym (rw c.in_err-contents_under.was at c.contents_under.ensures.value)))

pub returns : goal.returns
unfolding read_element
returns c =
    let a = c.args in
    c.read_contents.ensures ∙ sym (element_there (read_contents a.name a.form) a.name a.octets.now _ (sym (rw c.in_ok-contents_under.was at c.contents_under.ensures.value)))
