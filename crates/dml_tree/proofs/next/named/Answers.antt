use Rattle.dml_tree.proofs.Named.{name_front-fits, name_front-form, named_is_next}
use Rattle.dml_tree.proofs.next.named.Goals as goal

pub slice_bounds-name-end : goal.slice_bounds-name-end
slice_bounds-name-end c = name_front-fits c.args.bytes.now c.name_len-len.result c.name_len-len.ensures

pub name-requires : goal.name-requires
name-requires c = name_front-form c.args.bytes.now c.name_len-len.result c.name_len-len.ensures c.requires

pub returns : goal.returns
returns c = named_is_next c.args.bytes.now c.name_len-len.result c.name.result c.name_len-len.ensures c.requires c.name.ensures
