use Rattle.odata_filter.specs.FilterGrammar.{IsFilter}
use Rattle.odata_filter.specs.FilterLexemes.{lexemes_of}
use Rattle.odata_filter.proofs.TokenReading.{means_one}
use Rattle.odata_filter.proofs.FilterReadings.{reads_filters}
use Rattle.odata_filter.proofs.OneReading.{one_reading}
use Rattle.odata_filter.proofs.laws.filters_have_one_reading.Goals as goal

pub returns : goal.returns
returns c text r s d e = one_reading IsFilter text (means_one reads_filters (lexemes_of text)) r s d e
