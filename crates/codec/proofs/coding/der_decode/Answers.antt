use Rattle.codec.proofs.coding.der_decode.Goals as goal

pub returns : goal.returns
returns c = c.answer.ensures
