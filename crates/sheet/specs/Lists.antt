-- The sheet that the caller's lists say.
use Rattle.sheet.specs.declared.output.Lists.{Lists}
use Rattle.sheet.specs.Output.{sheet_of}
use Rattle.sheet.specs.Sheet.{Sheet}

abbrev pub listed : Lists → Sheet
listed l = sheet_of l.extent l.outages.now l.windows.now l.cool_downs.now l.tickets.now
