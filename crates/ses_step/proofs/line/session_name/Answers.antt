use Rattle.std.specs.Prelude.{take, drop}
use Rattle.std.specs.List.{prefix_len}
use Rattle.std.proofs.lemmas.Bool.{and_parts}
use Rattle.aw_cell.specs.Names.{is_word_byte}
use Rattle.ses_step.specs.Words.{is_session_name}
use Rattle.ses_step.specs.Lines.{begins_with_colon}
use Rattle.ses_step.proofs.Texts.{is_text-session_name}
use Rattle.ses_step.proofs.line.session_name.Goals as goal

pub text_of-requires : goal.text_of-requires
text_of-requires c =
    let text = c.args.text.now in
    let at = prefix_len is_word_byte text in
    rw c.word_bytes_in_front.ensures.value
    (is_text-session_name (take at text) (and_parts (is_session_name (take at text)) (begins_with_colon (drop at text)) c.requires).0)
