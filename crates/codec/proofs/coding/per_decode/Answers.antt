use Rattle.codec.proofs.coding.per_decode.Goals as goal

pub returns : goal.returns
returns c = c.answer.ensures
