use Rattle.p21_reader.proofs.OneReading.{one_header, one_reading}
use Rattle.p21_reader.proofs.law.files_have_one_reading.Goals as goal

pub returns : goal.returns
returns c = record { statements = one_header; one = one_reading }
