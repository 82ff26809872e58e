use Rattle.dml_loop.proofs.Products.{places-product}
use Rattle.dml_loop.proofs.laws.places_are_the_product.Goals as goal

pub returns : goal.returns
returns c = places-product
