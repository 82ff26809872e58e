use Rattle.std.proofs.Common.{◌∙◌, List, ℕ, subst}
use Rattle.aw_io.specs.Known.{Grows, GrowsByFront, GrowsByFront-append, GrowsByFront-more}
use Rattle.script_meaning.specs.Dump.{counted, heading, body_lines}
use Rattle.std.proofs.lemmas.Result.{on_err_weaker}
use Rattle.script_disk.proofs.Written.{on_err}
use Rattle.script_disk.proofs.objects.write_object.Goals as goal

pub returns-in_err-put_all-clause-err : goal.returns-in_err-put_all-clause-err
returns-in_err-put_all-clause-err g c =
    let front = subst (λ (text : List ℕ). GrowsByFront (g.K.Sink.written c.args.out.now) (g.K.Sink.written c.put_all.new.sink) text) (c.as_slice.ensures.value ∙ c.heading_line-heading.ensures) c.in_err-put_all.ensures.err in
    on_err c.from_residual.result _ (GrowsByFront-more (heading c.args.name.now c.args.number (counted c.args.body.now)) (body_lines c.args.body.now) front)

pub returns-clause-err : goal.returns-clause-err
returns-clause-err g c =
    let grew = subst (λ (text : List ℕ). Grows (g.K.Sink.written c.args.out.now) (g.K.Sink.written c.put_all.new.sink) text) (c.as_slice.ensures.value ∙ c.heading_line-heading.ensures) c.in_ok-put_all.ensures.ok in
    on_err_weaker c.write_body.result (λ front. GrowsByFront-append grew front) c.write_body.ensures.err
