-- The part is lent, and becomes the page. Assumes nothing.
use Rattle.model.specs.Definitions.Layout.{page_size}
use Rattle.fields.proofs.Lent.{lent_written}
use Rattle.fields.proofs.bytes.write_page.Goals as goal

pub returns-clause-bytes : goal.returns-clause-bytes
returns-clause-bytes c =
    let copied = c.copy_from_slice in
    lent_written c.args.s.now copied.new.self c.args.at page_size (λ x. c.args.page) c.requires copied.ensures.len copied.ensures.after
