use Rattle.sheet.proofs.SheetTrip.{written_then_read, read_then_written}
use Rattle.sheet.proofs.trips.round_trips.Goals as goal

pub returns : goal.returns
returns c = record { written_then_read = written_then_read; read_then_written = read_then_written }
