use Rattle.per.proofs.Laws.AnyPer as InPer
use Rattle.der_elements.proofs.Laws.AnyDer as InDer
use Rattle.codec.proofs.coding.answer_point.Goals as goal

pub returns-in-PerEncode : goal.returns-in-PerEncode
returns-in-PerEncode c = let a = c.args in rw (c.in-PerEncode.is, InPer.point-encodes a.t a.input.now) (c.encode.ensures)

pub returns-in-PerDecode : goal.returns-in-PerDecode
returns-in-PerDecode c = let a = c.args in rw (c.in-PerDecode.is, InPer.point-decodes a.t a.input.now) (c.decode.ensures)

pub returns-in-DerEncode : goal.returns-in-DerEncode
returns-in-DerEncode c = let a = c.args in rw (c.in-DerEncode.is, InDer.point-encodes a.t a.input.now) (c.encode-in-DerEncode.ensures)

pub returns-in-DerDecode : goal.returns-in-DerDecode
returns-in-DerDecode c = let a = c.args in rw (c.in-DerDecode.is, InDer.point-decodes a.t a.input.now) (c.decode-in-DerDecode.ensures)
