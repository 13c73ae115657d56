-- The products so far and those of what is left are those of all.
use Rattle.std.proofs.Common.{◌≡◌, drop}
use Rattle.hive_model.specs.Same.{texts}
use Rattle.text_model.specs.Products.{products}
use Rattle.event_records.proofs.Collecting.{onto_read}
use Rattle.event_records.proofs.products.read_products.Given as goal

abbrev pub invariant-loop-index : goal.invariant-loop-index
invariant-loop-index l =
    onto_read l.read.items (products (drop l.index l.raws) (texts (drop l.index l.cells))) ≡ products l.raws (texts l.cells)
