use Rattle.std.proofs.lemmas.Result.{err_from_is_err_and}
use Rattle.elf_loader.proofs.Headers.{file_exit, header_exit, good_file, read_fits}
use Rattle.elf_loader.proofs.read.read_image.Goals as goal

pub returns-in_err-check_file-clause-exact : goal.returns-in_err-check_file-clause-exact
returns-in_err-check_file-clause-exact c =
    let p = err_from_is_err_and c.from_residual.result c.from_residual.ensures.1 in
    rw (p.1, p.2) (file_exit c.args.bytes.now _ c.in_err-check_file.ensures.tests)

pub returns-in_err-check_headers-clause-exact : goal.returns-in_err-check_headers-clause-exact
returns-in_err-check_headers-clause-exact c =
    let p = err_from_is_err_and c.from_residual-in_err-check_headers.result c.from_residual-in_err-check_headers.ensures.1 in
    let told = rw (c.table_offset-table.ensures, c.table_count-count.ensures) at c.in_err-check_headers.ensures in
    rw (p.1, p.2) (header_exit c.args.bytes.now _ c.in_ok-check_file.ensures.tests told)

pub returns-clause-exact : goal.returns-clause-exact
returns-clause-exact c =
    let told = rw (c.table_offset-table.ensures, c.table_count-count.ensures) at c.in_ok-check_headers.ensures in
    let made = rw (c.table_offset-table.ensures, c.table_count-count.ensures) at c.in_ok-segments.ensures in
    rw c.entry.ensures (good_file c.args.bytes.now _ c.in_ok-check_file.ensures.tests told made)

pub returns-clause-fits : goal.returns-clause-fits
returns-clause-fits c =
    let told = rw (c.table_offset-table.ensures, c.table_count-count.ensures) at c.in_ok-check_headers.ensures in
    let made = rw (c.table_offset-table.ensures, c.table_count-count.ensures) at c.in_ok-segments.ensures in
    read_fits c.args.bytes.now _ told made
