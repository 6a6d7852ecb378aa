use Rattle.odata_filter.specs.OrderGrammar.{IsOrder}
use Rattle.odata_filter.specs.FilterLexemes.{lexemes_of}
use Rattle.odata_filter.proofs.TokenReading.{means_one}
use Rattle.odata_filter.proofs.OrderReadings.{reads_orders}
use Rattle.odata_filter.proofs.OneReading.{one_reading}
use Rattle.odata_filter.proofs.laws.orders_have_one_reading.Goals as goal

pub returns : goal.returns
returns c text r s d e = one_reading IsOrder text (means_one reads_orders (lexemes_of text)) r s d e
