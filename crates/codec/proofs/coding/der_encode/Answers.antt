use Rattle.codec.proofs.coding.der_encode.Goals as goal

pub returns : goal.returns
returns c = c.answer.ensures
