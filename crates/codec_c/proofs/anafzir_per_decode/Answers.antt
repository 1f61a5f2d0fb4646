use Rattle.codec_c.proofs.anafzir_per_decode.Goals as goal

pub returns : goal.returns
returns c = c.answer_to_c.ensures
