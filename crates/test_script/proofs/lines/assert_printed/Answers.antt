use Rattle.test_script.proofs.lines.assert_printed.Goals as goal

pub print-requires-clause-read : goal.print-requires-clause-read
print-requires-clause-read g c = (c.args.text.now, c.in_ok-script.ensures.found)

pub print_reads_back-requires-clause-read : goal.print_reads_back-requires-clause-read
print_reads_back-requires-clause-read g c = (c.args.text.now, c.in_ok-script.ensures.found)
