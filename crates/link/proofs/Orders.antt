-- The worked orders are kept, by computation. Holds: `orders_kept`.
use lib.Dec.{T as Passes}
use Rattle.algebra.specs.Sum.{sum, power}
use Rattle.algebra.specs.Polynomial.{from_roots, times_root_after}
use Rattle.algebra.specs.Weight.{total}
use Rattle.algebra.proofs.Tests.{all}
use Rattle.area.specs.Lists.{tabulate}
use Rattle.field.specs.Fields.{ops_of, five, eight}
use Rattle.field.specs.Modular.{modular}
use Rattle.field.specs.Binary.{binary, times_bits, times_alpha}
use Rattle.code.specs.Code.{distances_to}
use Rattle.code.specs.Generator.{points, generator_polynomial, row_symbol, times_g}
use Rattle.code.specs.Transmission.{sent_symbol}
use Rattle.code.specs.Windows.{transmission}
use Rattle.code.proofs.Search.{window_from, window_test, windows_test, fits_test, finished_far, none_begins, none_fits_test}
use Rattle.question.specs.Questions.{passing_to}
use Rattle.link.specs.Sample.{orders, OrdersKept}
use Rattle.link.proofs.OrderKinds.{same_list, same_answer, encoding_test, read_test, seven_test, decoding_test, orders_test, each_kept}

orders_pass : Passes (orders_test orders)
unfolding orders_test orders encoding_test decoding_test read_test seven_test same_list same_answer fits_test none_fits_test none_begins finished_far
    windows_test window_test window_from all total distances_to passing_to transmission tabulate sent_symbol sum times_g row_symbol generator_polynomial points
    from_roots times_root_after power ops_of five eight modular binary times_bits times_alpha
orders_pass = tt

pub orders_kept : OrdersKept
orders_kept = each_kept orders orders_pass
