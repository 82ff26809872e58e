use Rattle.dml_tree.proofs.Answered.{gives_tokens, gives_all, tells_fault, tells_each_fault}
use Rattle.dml_tree.proofs.line.tokens.Goals as goal

pub returns : goal.returns
returns c = record {
  tokens = gives_tokens c.args.line.now c.args.from c.scanned.result c.scanned.ensures;
  all = gives_all c.args.line.now c.args.from c.scanned.result c.scanned.ensures;
  fault = tells_fault c.args.line.now c.args.from c.scanned.result c.scanned.ensures;
  each_fault = tells_each_fault c.args.line.now c.args.from c.scanned.result c.scanned.ensures;
}
