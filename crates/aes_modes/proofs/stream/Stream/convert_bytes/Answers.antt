use Rattle.aes_modes.proofs.TextLemmas.{bytes_text_more}
use Rattle.aes_modes.proofs.stream.Stream.convert_bytes.Goals as goal

pub returns-clause-text : goal.returns-clause-text
returns-clause-text c = λ d r.
    bytes_text_more c.args.self.now d c.args.input.now _ c.requires.by_bytes r c.write_bytes.ensures.text
