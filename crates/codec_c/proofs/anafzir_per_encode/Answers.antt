use Rattle.codec_c.proofs.anafzir_per_encode.Goals as goal

pub returns : goal.returns
returns c = c.answer_to_c.ensures
