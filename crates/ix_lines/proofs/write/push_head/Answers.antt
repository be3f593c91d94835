use Rattle.std.proofs.Common.{string_bytes, ◌∙◌}
use Rattle.std.specs.Fmt.{decimal}
use Rattle.std.proofs.lemmas.Result.{on_ok_weaker}
use Rattle.ix_lines.specs.Words.{line_text}
use Rattle.ix_lines.proofs.WriteLaws.{head_pieces}
use Rattle.ix_lines.proofs.write.push_head.Goals as goal

pub returns : goal.returns
unfolding line_text
returns c =
    on_ok_weaker c.write-2.result (λ e. e ∙ rw (c.in_ok-push_str.ensures.bytes, c.in_ok-write.ensures.bytes)
    (head_pieces (string_bytes c.args.out.now) (decimal c.args.head.cores) (decimal c.args.head.batch) (decimal c.args.head.buffers))) c.write-2.ensures.bytes
