use Rattle.line_text.proofs.HexTexts.{low_digits}
use Rattle.line_text.proofs.line.LineText.push_hex.Goals as goal

pub returns : goal.returns
returns c =
    let same = low_digits c.args.digits c.args.n c.to_be_bytes-word.result c.requires.digits c.to_be_bytes-word.ensures in
    rw same at c.push_pairs.ensures
